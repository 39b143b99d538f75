use Rattle.std.proofs.Common.{IsTrue}
use Rattle.std.specs.Ordering.{nat_cmp}
use Rattle.std.specs.BTreeSet.{contains}
use Rattle.plan_order.proofs.Ready.{free_more}
use Rattle.plan_order.proofs.order.placing.ready_at_first.Goals as goal

pub loop-id-preserved : goal.loop-id-preserved
loop-id-preserved c = λ b.
    free_more c.args.ids.now c.args.waits.now c.loop-id.id-index b (IsTrue (contains nat_cmp c.loop-id.ready b)) (IsTrue (contains nat_cmp c.add_free.new.ready b))
    c.loop-id-test.true (c.loop-id.invariant b) (c.in_ok-add_free.ensures b)
