use Rattle.std.proofs.Common.{arith}
use Rattle.std.specs.FinMap.{gets}
use Rattle.io_edge.proofs.tests.outside_that_never_fails.Goals as goal

-- the file that was put in its place is held
pub load-requires : goal.load-requires
load-requires g c = grind (arith, gets)
