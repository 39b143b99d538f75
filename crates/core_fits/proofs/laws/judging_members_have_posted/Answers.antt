use Rattle.core_fits.proofs.Turns.{judging_posted}
use Rattle.core_fits.proofs.laws.judging_members_have_posted.Goals as goal

pub returns : goal.returns
returns c = λ plan history sides part scheme w k valid reached at none. judging_posted plan valid history sides reached part scheme w k at none
