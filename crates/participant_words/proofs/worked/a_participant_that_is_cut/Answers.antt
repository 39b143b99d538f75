use Rattle.std.proofs.Common.{refl}
use Rattle.participant_words.proofs.OnLiterals.{calls_on_literals}
use Rattle.participant_words.proofs.worked.a_participant_that_is_cut.Goals as goal

pub returns-clause-ends : goal.returns-clause-ends
unfolding calls_on_literals
returns-clause-ends c = refl

pub returns-clause-nothing_waits : goal.returns-clause-nothing_waits
unfolding calls_on_literals
returns-clause-nothing_waits c = refl

pub returns-clause-error : goal.returns-clause-error
unfolding calls_on_literals
returns-clause-error c = refl
