use Rattle.std.specs.Vec.Iter.{into_iter_items, into_iter_len}
use Rattle.call_parts.proofs.JoinKept.{kept_more, kept_short}
use Rattle.call_parts.proofs.taken.kept_inputs.Goals as goal

pub loop-i-preserved : goal.loop-i-preserved
loop-i-preserved c =
    rw c.in_ok-push-in-Some.ensures.items
    (kept_more c.args.inputs.now c.args.waves.items c.loop-i.i c.loop-i.kept.items (into_iter_items c.loop-i.rest) (into_iter_items c.next.new.self)
    (into_iter_len c.loop-i.rest) (into_iter_len c.next.new.self) c.index-inputs-i.result c.in-Some.wave c.kept_input.result
    c.loop-i-test.true c.index-inputs-i.is c.kept_input.ensures c.in-Some.ensures.cases.0 c.in-Some.ensures.cases.1 c.loop-i.invariant)

pub returns-in-None : goal.returns-in-None
returns-in-None c =
    kept_short c.args.inputs.now c.args.waves.items c.loop-i.i c.loop-i.kept.items (into_iter_items c.loop-i.rest) (into_iter_len c.loop-i.rest)
    c.in-None.ensures.cases.0 c.loop-i.invariant
