use Rattle.std.proofs.Common.{◌≡◌, ◌+◌, ℕ, Option, ap, sym, subst, ◌∙◌, arith}
use Rattle.std.specs.Prelude.{unwrap_or}
use Rattle.cpl_plan.specs.declared.parts.PlanParts.{PlanParts}
use Rattle.participant_tables.proofs.Looking.{IsLooking, looking-first, looking-found, looking-past, looking-other}
use Rattle.participant_tables.proofs.read_table.served_from.Goals.{then-exchange-part+else-is_served, else-exchange-part}
use Rattle.participant_tables.proofs.read_table.served_from.Goals as goal

pub loop-exchange-init : goal.loop-exchange-init
loop-exchange-init c = (
  c.as_slice-exchange-items.ensures ∙ ap (λ (p : PlanParts). p.exchanges) c.parts.ensures.value,
  omega (arith),
  looking-first c.args.plan.now c.args.part c.args.entry,
)

pub returns-then-is_served : goal.returns-then-is_served
returns-then-is_served c =
    ap (λ (o : Option ℕ). unwrap_or o 0)
    (looking-found c.args.plan.now c.args.part c.args.entry c.loop-exchange.place c.loop-exchange.exchange-index c.as_slice-exchange-items.result.now _ c.loop-exchange.invariant.0 c.loop-exchange-test.true c.loop-exchange.invariant.2
    c.if-exchange-part.true (sym c.is_served.ensures ∙ c.if-is_served.true))

pub loop-exchange-preserved : goal.loop-exchange-preserved
loop-exchange-preserved c = elim c.if-exchange-part.branch [
  | then-exchange-part+else-is_served w ↦
      let next : c.loop-exchange.place + 1 ≡ c.if-exchange-part.place = omega (arith, w.place-is) in (
        c.loop-exchange.invariant.0,
        omega (arith, next, c.loop-exchange.invariant.1),
        subst (λ (p : ℕ). IsLooking c.args.plan.now c.args.part c.args.entry p (c.loop-exchange.exchange-index + 1)) next
            (looking-past c.args.plan.now c.args.part c.args.entry c.loop-exchange.place c.loop-exchange.exchange-index c.as_slice-exchange-items.result.now _ c.loop-exchange.invariant.0 c.loop-exchange-test.true c.loop-exchange.invariant.2
            w.if-exchange-part.true (sym w.is_served.ensures ∙ w.if-is_served.false)),
      )
  | else-exchange-part w ↦
      let next : c.loop-exchange.place ≡ c.if-exchange-part.place = omega (arith, w.place-is) in (
        c.loop-exchange.invariant.0,
        omega (arith, next, c.loop-exchange.invariant.1),
        subst (λ (p : ℕ). IsLooking c.args.plan.now c.args.part c.args.entry p (c.loop-exchange.exchange-index + 1)) next
            (looking-other c.args.plan.now c.args.part c.args.entry c.loop-exchange.place c.loop-exchange.exchange-index c.as_slice-exchange-items.result.now _ c.loop-exchange.invariant.0 c.loop-exchange-test.true c.loop-exchange.invariant.2
            w.if-exchange-part.false),
      )
]
