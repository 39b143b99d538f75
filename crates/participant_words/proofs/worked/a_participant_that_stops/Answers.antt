use Rattle.std.proofs.Common.{refl}
use Rattle.participant_words.proofs.OnLiterals.{calls_on_literals}
use Rattle.participant_words.proofs.worked.a_participant_that_stops.Goals as goal

pub returns-clause-ends : goal.returns-clause-ends
unfolding calls_on_literals
returns-clause-ends c = refl

pub returns-clause-no_error : goal.returns-clause-no_error
unfolding calls_on_literals
returns-clause-no_error c = refl

pub returns-clause-refused : goal.returns-clause-refused
unfolding calls_on_literals
returns-clause-refused c = refl

pub returns-clause-through : goal.returns-clause-through
unfolding calls_on_literals
returns-clause-through c = refl
