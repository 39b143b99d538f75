use Rattle.std.proofs.Common.{◌≡◌, not, length, count_by}
use Rattle.plan_order.proofs.Waiting.{is_in}
use Rattle.plan_order.proofs.Placing.{Placing}
use Rattle.plan_order.proofs.order.placing.place.Given as goal

abbrev pub invariant-loop-id : goal.invariant-loop-id
invariant-loop-id l = Placing l.ids l.edges l.order.items l.waits.items l.ready × (length l.waits.items ≡ length l.ids)

abbrev pub decreases-loop-id : goal.decreases-loop-id
decreases-loop-id l = count_by (λ id. not (is_in l.order.items id)) l.ids
