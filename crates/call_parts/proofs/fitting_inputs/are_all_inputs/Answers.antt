use Rattle.std.proofs.Common.{◌≡◌, ℕ, ◌+◌, length, Option, slice_get, IfSome, refl, sym, subst, arith}
use Rattle.std.proofs.lemmas.Bool.{eqb-true}
use Rattle.std.proofs.lemmas.Option.{slice_get_read}
use Rattle.cpl_plan.specs.declared.parts.Exchange.{Exchange}
use Rattle.core_sides.specs.declared.event.Input.{Input}
use Rattle.participant_words.specs.KnownByReply.{known_by}
use Rattle.call_parts.specs.InputLengths.{IsInputOf}
use Rattle.call_parts.proofs.InputsSoFar.{AreSoFar, so_far_other, so_far_own, so_far_all}
use Rattle.call_parts.proofs.fitting_inputs.are_all_inputs.Goals as goal
use Rattle.call_parts.proofs.fitting_inputs.are_all_inputs.Goals.{then-exchange-part+else-inputs-place+else-not-is_input, else-exchange-part}

pub loop-x-preserved : goal.loop-x-preserved
loop-x-preserved c =
    let plan = c.args.plan.now in
    let known = known_by plan c.args.part c.args.own.now c.args.received.now in
    let inputs = c.args.inputs.now in
    elim c.if-exchange-part.branch [
      | then-exchange-part+else-inputs-place+else-not-is_input w ↦
          let place : c.if-exchange-part.place ≡ c.loop-x.place + 1 = cc (w.place-is) in
          subst (λ (p : ℕ). AreSoFar plan c.args.part known c.args.window inputs p (c.loop-x.x + 1)) (sym place)
          (so_far_own plan c.args.part known c.args.window inputs c.loop-x.place c.loop-x.x c.exchange.result.now c.exchange.ensures c.loop-x.invariant
          w.if-exchange-part.true w.index-inputs-place.result
          (slice_get_read inputs (length inputs) c.loop-x.place w.index-inputs-place.result refl (omega (arith, w.if-inputs-place.false)) w.index-inputs-place.is)
          (subst (λ (o : Option Exchange). IfSome o (λ e. IsInputOf plan c.args.part known c.args.window e w.index-inputs-place.result.wave)) c.exchange.ensures
          (subst (λ (i : Input). IfSome (slice_get plan.exchanges c.loop-x.x) (λ e. IsInputOf plan c.args.part known c.args.window e i.wave)) (sym w.index-inputs-place.is)
          (w.is_input.ensures w.if-not-is_input.false))))
      | else-exchange-part w ↦
          let place : c.if-exchange-part.place ≡ c.loop-x.place = cc (w.place-is) in
          subst (λ (p : ℕ). AreSoFar plan c.args.part known c.args.window inputs p (c.loop-x.x + 1)) (sym place)
          (so_far_other plan c.args.part known c.args.window inputs c.loop-x.place c.loop-x.x c.exchange.result.now c.exchange.ensures c.loop-x.invariant
          w.if-exchange-part.false)
    ]

pub returns : goal.returns
returns c = λ yes.
    let last : c.loop-x.x ≡ length c.args.plan.now.exchanges = omega (arith, c.loop-x-test.false, c.loop-x.auto.x-end, c.exchange_count-x-end.ensures) in
    so_far_all c.args.plan.now c.args.part (known_by c.args.plan.now c.args.part c.args.own.now c.args.received.now) c.args.window c.args.inputs.now
    c.loop-x.place c.loop-x.x last (eqb-true c.loop-x.place (length c.args.inputs.now) yes) c.loop-x.invariant
