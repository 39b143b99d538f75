use Rattle.cpl_tables.proofs.VisibleNames.{name_parts, name_of_one}
use Rattle.cpl_tables.proofs.laws.names_are_visible.Goals as goal

pub returns-clause-few : goal.returns-clause-few
returns-clause-few c = λ text h. (name_parts text h).0

pub returns-clause-visible : goal.returns-clause-visible
returns-clause-visible c = λ text h. (name_parts text h).1

pub returns-clause-each : goal.returns-clause-each
returns-clause-each c = λ byte least most. name_of_one byte least most
