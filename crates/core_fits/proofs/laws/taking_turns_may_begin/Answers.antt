use Rattle.core_fits.proofs.Turns.{taking_provided}
use Rattle.core_fits.proofs.laws.taking_turns_may_begin.Goals as goal

pub returns : goal.returns
returns c = λ plan history sides part w k valid reached at there none. taking_provided plan valid history sides reached part w k at there none
