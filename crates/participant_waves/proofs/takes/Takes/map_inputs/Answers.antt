use Rattle.std.proofs.Common.{◌≡◌, ℕ, List, map, Ok, Option, Result, rules, ap, sym, subst, ◌∙◌}
use Rattle.std.proofs.lemmas.Result.{IfOk-weaker, IfErr-weaker}
use Rattle.cpl_plan.specs.declared.parts.PlanParts.{PlanParts}
use Rattle.cpl_plan.specs.declared.words.Fault.{Fault}
use Rattle.core_sides.specs.declared.event.Input.{Input}
use Rattle.wave_coupling.specs.Posts.{Wave}
use Rattle.wave_coupling.specs.Known.{Known}
use Rattle.wave_coupling.specs.MappedInputs.{mapped_inputs}
use Rattle.participant_words.specs.Begun.{input_wave_of}
use Rattle.participant_waves.specs.TakingKept.{TakingKept, TakesKept}
use Rattle.participant_waves.specs.TakesStand.{AreTakes}
use Rattle.participant_waves.specs.TakenWaves.{waves_taken, with_waves}
use Rattle.participant_waves.specs.Refusals.{IsNoTake}
use Rattle.participant_waves.proofs.TakesMean.{taken_ok, not_taken}
use Rattle.participant_waves.proofs.takes.Takes.map_inputs.Goals as goal

-- what is kept, by its fields
taken_same : (part : ℕ) (takings : List TakingKept) (kept : TakesKept) (w k : ℕ) (inputs : List Input) → part ≡ kept.part → takings ≡ kept.takings
    → waves_taken part w k takings inputs ≡ waves_taken kept.part w k kept.takings inputs
taken_same part takings kept w k inputs same alike =
    ap (λ (p : ℕ). waves_taken p w k takings inputs) same ∙ ap (λ (ts : List TakingKept). waves_taken kept.part w k ts inputs) alike

pub returns-clause-mapped : goal.returns-clause-mapped
returns-clause-mapped c =
    let slice : c.deref_mut.result.now ≡ c.self.inside.takings.items = search rules in
    let same = taken_same c.self.inside.part c.deref_mut.result.now c.args.self.now c.args.window c.args.iteration c.args.inputs.now
    (ap (λ (k : TakesKept). k.part) c.self.view_is) (slice ∙ ap (λ (k : TakesKept). k.takings) c.self.view_is) in
    IfOk-weaker c.mapped_waves.result
    (λ waves. waves_taken c.self.inside.part c.args.window c.args.iteration c.deref_mut.result.now c.args.inputs.now ≡ Ok waves.items)
    (λ waves. (plan : PlanParts) (part : ℕ) (known : Known) → AreTakes plan part known c.args.self.now
    → mapped_inputs plan part known c.args.window c.args.iteration (map input_wave_of c.args.inputs.now) ≡ Ok (with_waves c.args.inputs.now waves.items))
    (λ waves is plan part known takes. taken_ok plan part known c.args.window c.args.iteration c.args.self.now takes c.args.inputs.now waves.items (sym same ∙ is))
    c.mapped_waves.ensures.mapped

pub returns-clause-refused : goal.returns-clause-refused
returns-clause-refused c =
    let slice : c.deref_mut.result.now ≡ c.self.inside.takings.items = search rules in
    let same = taken_same c.self.inside.part c.deref_mut.result.now c.args.self.now c.args.window c.args.iteration c.args.inputs.now
    (ap (λ (k : TakesKept). k.part) c.self.view_is) (slice ∙ ap (λ (k : TakesKept). k.takings) c.self.view_is) in
    IfErr-weaker c.mapped_waves.result
    (IsNoTake (waves_taken c.self.inside.part c.args.window c.args.iteration c.deref_mut.result.now c.args.inputs.now))
    (λ why. (plan : PlanParts) (part : ℕ) (known : Known) → AreTakes plan part known c.args.self.now
    → IsNoTake (mapped_inputs plan part known c.args.window c.args.iteration (map input_wave_of c.args.inputs.now)) why)
    (λ why is plan part known takes. not_taken plan part known c.args.window c.args.iteration c.args.self.now takes c.args.inputs.now why
    (subst (λ (meant : Result (List Wave) (Option Fault)). IsNoTake meant why) same is))
    c.mapped_waves.ensures.refused
