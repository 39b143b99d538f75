use Rattle.std.proofs.Common.{refl}
use Rattle.participant_words.proofs.OnLiterals.{calls_on_literals}
use Rattle.participant_words.proofs.worked.a_window_that_is_repeated.Goals as goal

pub returns-clause-posts : goal.returns-clause-posts
unfolding calls_on_literals
returns-clause-posts c = refl

pub returns-clause-reads_checkpoint : goal.returns-clause-reads_checkpoint
unfolding calls_on_literals
returns-clause-reads_checkpoint c = refl

pub returns-clause-no_writing : goal.returns-clause-no_writing
unfolding calls_on_literals
returns-clause-no_writing c = refl

pub returns-clause-not_complete : goal.returns-clause-not_complete
unfolding calls_on_literals
returns-clause-not_complete c = refl

pub returns-clause-reads : goal.returns-clause-reads
unfolding calls_on_literals
returns-clause-reads c = refl

pub returns-clause-source : goal.returns-clause-source
unfolding calls_on_literals
returns-clause-source c = refl

pub returns-clause-complete : goal.returns-clause-complete
unfolding calls_on_literals
returns-clause-complete c = refl

pub returns-clause-finished : goal.returns-clause-finished
unfolding calls_on_literals
returns-clause-finished c = refl

pub returns-clause-no_step : goal.returns-clause-no_step
unfolding calls_on_literals
returns-clause-no_step c = refl

pub returns-clause-steps : goal.returns-clause-steps
unfolding calls_on_literals
returns-clause-steps c = refl
