use Rattle.std.proofs.Common.{refl}
use Rattle.participant_words.proofs.OnLiterals.{calls_on_literals}
use Rattle.participant_words.proofs.worked.an_event_that_is_put_back.Goals as goal

pub returns : goal.returns
unfolding calls_on_literals
returns c = refl
