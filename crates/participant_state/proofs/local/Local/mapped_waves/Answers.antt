use Rattle.std.proofs.Common.{◌≡◌, ℕ, map, Ok, Option, subst}
use Rattle.std.specs.Prelude.{IfSome}
use Rattle.std.proofs.lemmas.Result.{IfErr-weaker, IfOk-weaker}
use Rattle.cpl_plan.specs.declared.parts.PlanParts.{PlanParts}
use Rattle.wave_coupling.specs.Known.{Known}
use Rattle.wave_coupling.specs.MappedInputs.{mapped_inputs}
use Rattle.participant_words.specs.Begun.{input_wave_of}
use Rattle.participant_words.specs.Course.{known}
use Rattle.participant_words.specs.KnownByReply.{known_by}
use Rattle.participant_waves.specs.PassagesStand.{ArePassages}
use Rattle.participant_waves.specs.Refusals.{IsNoTake}
use Rattle.participant_waves.specs.TakenWaves.{with_waves}
use Rattle.participant_waves.specs.TakesStand.{AreTakes}
use Rattle.participant_waves.specs.declared.passages.Passages.{Passages}
use Rattle.participant_state.specs.Member.{Member}
use Rattle.participant_state.proofs.JoinTakes.{can_take}
use Rattle.participant_state.proofs.local.Local.mapped_waves.Goals as goal

pub map_inputs-requires : goal.map_inputs-requires
map_inputs-requires c =
    let l = c.self.inside in
    let m = c.args.self.now in
    let stand = subst (λ (o : Option Passages). IfSome o (ArePassages l.plan l.part (known_by l.plan l.part l.own l.received))) c.in-Some.is c.self.invariant.4.stand in
    can_take m.plan m.part m.course c.in-Some.passages.takes
    (subst (λ (m : Member). AreTakes m.plan m.part (known m.plan m.part m.course) c.in-Some.passages.takes) c.self.view_is stand.takes)
    c.args.inputs.now c.requires.inputs

pub returns-clause-mapped : goal.returns-clause-mapped
returns-clause-mapped c =
    let l = c.self.inside in
    let m = c.args.self.now in
    let stand = subst (λ (o : Option Passages). IfSome o (ArePassages l.plan l.part (known_by l.plan l.part l.own l.received))) c.in-Some.is c.self.invariant.4.stand in
    let takes = subst (λ (m : Member). AreTakes m.plan m.part (known m.plan m.part m.course) c.in-Some.passages.takes) c.self.view_is stand.takes in
    IfOk-weaker c.map_inputs.result
    (λ waves. (plan : PlanParts) (part : ℕ) (known : Known) → AreTakes plan part known c.in-Some.passages.takes
    → mapped_inputs plan part known l.clock.window l.clock.iteration (map input_wave_of c.args.inputs.now) ≡ Ok (with_waves c.args.inputs.now waves.items))
    (λ waves. mapped_inputs m.plan m.part (known m.plan m.part m.course) m.course.turn.window m.course.turn.iteration (map input_wave_of c.args.inputs.now) ≡ Ok (with_waves c.args.inputs.now waves.items))
    (λ waves is. subst (λ (n : Member). mapped_inputs m.plan m.part (known m.plan m.part m.course) n.course.turn.window n.course.turn.iteration (map input_wave_of c.args.inputs.now) ≡ Ok (with_waves c.args.inputs.now waves.items))
    c.self.view_is (is m.plan m.part (known m.plan m.part m.course) takes))
    c.map_inputs.ensures.mapped

pub returns-clause-refused : goal.returns-clause-refused
returns-clause-refused c =
    let l = c.self.inside in
    let m = c.args.self.now in
    let stand = subst (λ (o : Option Passages). IfSome o (ArePassages l.plan l.part (known_by l.plan l.part l.own l.received))) c.in-Some.is c.self.invariant.4.stand in
    let takes = subst (λ (m : Member). AreTakes m.plan m.part (known m.plan m.part m.course) c.in-Some.passages.takes) c.self.view_is stand.takes in
    IfErr-weaker c.map_inputs.result
    (λ why. (plan : PlanParts) (part : ℕ) (known : Known) → AreTakes plan part known c.in-Some.passages.takes
    → IsNoTake (mapped_inputs plan part known l.clock.window l.clock.iteration (map input_wave_of c.args.inputs.now)) why)
    (IsNoTake (mapped_inputs m.plan m.part (known m.plan m.part m.course) m.course.turn.window m.course.turn.iteration (map input_wave_of c.args.inputs.now)))
    (λ why is. subst (λ (n : Member). IsNoTake (mapped_inputs m.plan m.part (known m.plan m.part m.course) n.course.turn.window n.course.turn.iteration (map input_wave_of c.args.inputs.now)) why)
    c.self.view_is (is m.plan m.part (known m.plan m.part m.course) takes))
    c.map_inputs.ensures.refused
