use Rattle.std.proofs.Common.{arith}
use Rattle.participant_tables.proofs.names.Names.data_item.Goals as goal

-- there are at most 64 data
pub overflow_cast-result : goal.overflow_cast-result
overflow_cast-result c = omega (arith, c.in-Some.ensures.within, c.self.invariant)
