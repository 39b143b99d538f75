use Rattle.cpl_plan.proofs.Owners.{owner_alone}
use Rattle.cpl_plan.proofs.laws.owner_provides_alone.Goals as goal

pub returns : goal.returns
returns c = λ plan mesh of_mesh part valid is. owner_alone plan valid mesh of_mesh is part
