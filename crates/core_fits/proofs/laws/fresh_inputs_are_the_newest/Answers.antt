use Rattle.core_fits.proofs.FreshAccepted.{fresh_accepted}
use Rattle.core_fits.proofs.laws.fresh_inputs_are_the_newest.Goals as goal

pub returns : goal.returns
returns c = λ plan history sides x w k e valid reached stands fresh at there none.
    fresh_accepted plan valid history sides reached x w k e stands fresh at there none
