use Rattle.coupling_run.proofs.SameTrees.{same_members-equal, same_members-itself}
use Rattle.coupling_run.proofs.laws.same_tree_is_equality.Goals as goal

pub returns-clause-equal : goal.returns-clause-equal
returns-clause-equal c = same_members-equal

pub returns-clause-itself : goal.returns-clause-itself
returns-clause-itself c = same_members-itself
