use Rattle.core_fits.proofs.Turns.{turn_relaxed}
use Rattle.core_fits.proofs.laws.turns_follow_relaxed_ones.Goals as goal

pub returns : goal.returns
returns c = λ plan history sides part w k valid reached below at. turn_relaxed plan valid history sides reached part w k below at
