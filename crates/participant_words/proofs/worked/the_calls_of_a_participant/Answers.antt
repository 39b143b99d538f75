use Rattle.std.proofs.Common.{refl}
use Rattle.participant_words.proofs.OnLiterals.{calls_on_literals}
use Rattle.participant_words.proofs.worked.the_calls_of_a_participant.Goals as goal

pub returns-clause-owed : goal.returns-clause-owed
unfolding calls_on_literals
returns-clause-owed c = refl

pub returns-clause-no_ticks : goal.returns-clause-no_ticks
unfolding calls_on_literals
returns-clause-no_ticks c = refl

pub returns-clause-too_long : goal.returns-clause-too_long
unfolding calls_on_literals
returns-clause-too_long c = refl

pub returns-clause-too_late : goal.returns-clause-too_late
unfolding calls_on_literals
returns-clause-too_late c = refl

pub returns-clause-too_late_to_set : goal.returns-clause-too_late_to_set
unfolding calls_on_literals
returns-clause-too_late_to_set c = refl

pub returns-clause-not_read : goal.returns-clause-not_read
unfolding calls_on_literals
returns-clause-not_read c = refl

pub returns-clause-no_vertex : goal.returns-clause-no_vertex
unfolding calls_on_literals
returns-clause-no_vertex c = refl

pub returns-clause-granted : goal.returns-clause-granted
unfolding calls_on_literals
returns-clause-granted c = refl

pub returns-clause-most : goal.returns-clause-most
unfolding calls_on_literals
returns-clause-most c = refl

pub returns-clause-read : goal.returns-clause-read
unfolding calls_on_literals
returns-clause-read c = refl
