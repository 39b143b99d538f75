use Rattle.data_actions.proofs.Targets.{target, exact, others}
use Rattle.data_actions.proofs.laws.each_target_is_its_total.Goals as goal

pub returns-clause-nearest : goal.returns-clause-nearest
returns-clause-nearest c = target

pub returns-clause-exact : goal.returns-clause-exact
returns-clause-exact c = exact

pub returns-clause-others : goal.returns-clause-others
returns-clause-others c = others
