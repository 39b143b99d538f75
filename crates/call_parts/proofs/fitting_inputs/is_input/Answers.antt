use Rattle.std.proofs.Common.{◌≡◌, ℕ, ◌*◌, length, Option, IfSome, ap, sym, subst}
use Rattle.std.specs.Prelude.{All}
use Rattle.std.specs.Option.{option_map_or}
use Rattle.cpl_plan.specs.PlanWords.{components_of}
use Rattle.cpl_plan.specs.declared.parts.Exchange.{Exchange}
use Rattle.wave_coupling.specs.Known.{points_of}
use Rattle.participant_words.specs.KnownByReply.{known_by}
use Rattle.participant_waves.proofs.PlanSays.{data_within, mesh_within}
use Rattle.call_parts.specs.InputLengths.{HasLengths, IsInputOf}
use Rattle.call_parts.proofs.fitting_inputs.is_input.Goals as goal

pub components-components-requires-clause-data_item : goal.components-components-requires-clause-data_item
components-components-requires-clause-data_item c =
    data_within c.args.plan.now c.parts-parts.ensures.valid c.args.x c.exchange-exchange.result.now c.exchange-exchange.ensures

pub components-components-requires-clause-mesh : goal.components-components-requires-clause-mesh
components-components-requires-clause-mesh c =
    mesh_within c.args.plan.now c.parts-parts.ensures.valid c.args.x c.exchange-exchange.result.now c.exchange-exchange.ensures

pub returns : goal.returns
returns c = λ yes.
    let plan = c.args.plan.now in
    let known = known_by plan c.args.part c.args.own.now c.args.received.now in
    let e = c.exchange-exchange.result.now in
    let r = c.components-components.result in
    let v = c.vertices_of_exchange-vertices.result in
    let wide : components_of plan e ≡ r = ap (λ o. option_map_or (λ (n : ℕ). n) o 0) c.components-components.ensures in
    let long : length (points_of plan c.args.part known e.mesh) ≡ v =
    subst (λ (o : Option Exchange). IfSome o (λ f. length (points_of plan c.args.part known f.mesh) ≡ v)) c.exchange-exchange.ensures c.vertices_of_exchange-vertices.ensures.vertices in
    subst (λ (o : Option Exchange). IfSome o (λ f. IsInputOf plan c.args.part known c.args.window f c.args.wave.now)) (sym c.exchange-exchange.ensures)
    (record {
      is_wave = c.has_lengths.ensures.wave;
      spans = c.spans.ensures c.if-not-spans.false;
      lengths = subst (λ (n : ℕ). All (HasLengths n (n * length (points_of plan c.args.part known e.mesh))) c.args.wave.now) (sym wide)
          (subst (λ (m : ℕ). All (HasLengths r (r * m)) c.args.wave.now) (sym long) (c.has_lengths.ensures.lengths yes));
    })
