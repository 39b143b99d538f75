use Rattle.participant_words.proofs.WindowsFollow.{follows}
use Rattle.participant_words.proofs.laws.windows_follow_one_another.Goals as goal

pub returns : goal.returns
returns c plan turn fixed end more = follows plan turn fixed end more
