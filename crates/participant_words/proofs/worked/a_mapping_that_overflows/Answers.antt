use Rattle.std.proofs.Common.{refl}
use Rattle.participant_words.proofs.OnLiterals.{calls_on_literals}
use Rattle.participant_words.proofs.worked.a_mapping_that_overflows.Goals as goal

pub returns-clause-stops : goal.returns-clause-stops
unfolding calls_on_literals
returns-clause-stops c = refl

pub returns-clause-waits : goal.returns-clause-waits
unfolding calls_on_literals
returns-clause-waits c = refl

pub returns-clause-error : goal.returns-clause-error
unfolding calls_on_literals
returns-clause-error c = refl

pub returns-clause-ends : goal.returns-clause-ends
unfolding calls_on_literals
returns-clause-ends c = refl
