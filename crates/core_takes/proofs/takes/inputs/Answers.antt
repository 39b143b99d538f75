use Rattle.std.proofs.Common.{◌≡◌, ◌++◌, ◌∷◌, [], List, Option, true, false, nat_eq, length, ap, sym, ◌∙◌, arith}
use Rattle.std.specs.Option.{option_map_or}
use Rattle.std.proofs.lemmas.Bool.{eq-eqb, ne_eqb}
use Rattle.cpl_plan.specs.declared.parts.Exchange.{Exchange}
use Rattle.cpl_plan.proofs.Readings.{at_passes}
use Rattle.core_sides.specs.declared.event.Input.{Input}
use Rattle.core_takes.proofs.AllInputs.{input_at, is_received, all_inputs}
use Rattle.core_takes.proofs.Rows.{row_more, row_same}
use Rattle.core_takes.proofs.takes.inputs.Goals as goal
use Rattle.core_takes.proofs.takes.inputs.Goals.{then-exchange-turn+in_ok-push_input, else-exchange-turn}

pub loop-x-preserved : goal.loop-x-preserved
loop-x-preserved c = λ look tells.
    let plan = c.args.plan.now in
    let turn = c.args.turn in
    let e = c.exchange.result.now in
    let item = input_at plan look turn.part turn.window turn.iteration turn.start in
    let test = is_received plan look turn.part turn.window turn.iteration in
    elim c.if-exchange-turn.branch [
      | then-exchange-turn+in_ok-push_input w ↦
          rw w.inputs-is (w.in_ok-push_input.ensures look tells ∙ ap (λ (items : List Input). items ++ item c.loop-x.x ∷ []) (c.loop-x.invariant look tells)
          ∙ sym (row_more item test c.loop-x.x (at_passes plan.exchanges c.loop-x.x (λ e. nat_eq e.to turn.part) e c.exchange.ensures (eq-eqb e.to turn.part w.if-exchange-turn.true))))
      | else-exchange-turn w ↦
          rw w.inputs-is (c.loop-x.invariant look tells
          ∙ sym (row_same item test c.loop-x.x (ap (λ (o : Option Exchange). option_map_or (λ e. nat_eq e.to turn.part) o false) c.exchange.ensures ∙ ne_eqb e.to turn.part w.if-exchange-turn.false)))
    ]

pub returns : goal.returns
returns c = record {
  inputs = λ look tells.
      let plan = c.args.plan.now in
      let turn = c.args.turn in
      let all : c.loop-x.x ≡ length plan.exchanges = omega (arith, c.loop-x-test.false, c.loop-x.auto.x-end, c.exchange_count-x-end.ensures) in
      c.from_vec.ensures ∙ c.loop-x.invariant look tells ∙ all_inputs plan look turn.part turn.window turn.iteration turn.start c.loop-x.x tells.start all;
}
