use Rattle.std.proofs.Common.{ℕ, ◌<◌, ◌≤◌, length, IsTrue, slice_index, slice_index_or, arith}
use Rattle.std.specs.Ordering.{nat_cmp}
use Rattle.std.specs.BTreeSet.{contains}
use Rattle.plan_order.proofs.Ready.{freed_more, taken_more, some_left}
use Rattle.plan_order.proofs.order.placing.release.Goals as goal

pub overflow_sub-waits : goal.overflow_sub-waits
overflow_sub-waits c =
    let at : ℕ = slice_index_or c.args.ends.now c.loop-end.end-index 0 in
    some_left c.args.ends.now c.loop-end.waits c.loop-end.end-index (slice_index c.args.waits.now at) c.loop-end-test.true (c.requires.enough at) (c.loop-end.invariant.waits at)

pub loop-end-preserved : goal.loop-end-preserved
loop-end-preserved c =
    let at : ℕ = slice_index_or c.args.ends.now c.loop-end.end-index 0 in
    let within : at < length c.loop-end.waits = omega (arith, c.requires.in_range c.loop-end.end-index 0 c.loop-end-test.true, c.loop-end.auto.waits) in
    let some : 1 ≤ slice_index c.loop-end.waits at =
    some_left c.args.ends.now c.loop-end.waits c.loop-end.end-index (slice_index c.args.waits.now at) c.loop-end-test.true (c.requires.enough at) (c.loop-end.invariant.waits at) in
    record {
      waits = λ b. taken_more c.args.ends.now c.loop-end.waits c.loop-end.end-index b (slice_index c.args.waits.now b) c.loop-end-test.true within some (c.loop-end.invariant.waits b);
      ready = λ b. freed_more c.args.ends.now c.loop-end.waits c.loop-end.end-index b
          (IsTrue (contains nat_cmp c.args.ready.now b)) (IsTrue (contains nat_cmp c.loop-end.ready b)) (IsTrue (contains nat_cmp c.add_free.new.ready b))
          c.loop-end-test.true within (c.loop-end.invariant.ready b) (c.in_ok-add_free.ensures b);
    }
