use Rattle.pair_core.proofs.Legal.{law}
use Rattle.pair_core.proofs.laws.law_stands.Goals as goal

pub returns : goal.returns
returns c = λ windows h some_window windows_within legal. law windows h some_window windows_within legal
