use Rattle.std.proofs.Common.{arith}
use Rattle.io_edge.proofs.TakenBytes.{took_next}
use Rattle.io_edge.proofs.sink.put_all.Goals as goal

pub loop-rest-preserved : goal.loop-rest-preserved
loop-rest-preserved g c =
    let before = c.loop-rest.invariant.0 in
    let ensured = c.in_ok-count.ensures in
    let next = took_next _ _ _ _ _ before.0 c.in_ok-count.count before.1 before.2 before.3 ensured.within ensured.ok in
    (rw c.split_at.ensures.back next, omega (arith, c.loop-rest.invariant.1, ensured.never_falls))
