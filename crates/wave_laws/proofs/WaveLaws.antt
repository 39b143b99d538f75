-- The laws of every interleaving, for a coupling of waves.
use Rattle.std.proofs.Common.{◌≡◌, ℕ, ◌<◌, ◌≤◌, ◌^◌, inl, inr, Bool, ◌&&◌, nat_eq, nat_le, List, [], filter_map, length, slice_get, cond, Option, Some, None, option_and_then, refl, ap, sym, ◌∙◌, arith, if◌then◌else◌, lt_irrefl, lt_of_lt_of_le}
use Rattle.std.specs.Option.{option_map_or}
use Rattle.std.proofs.lemmas.Bool.{and_parts, leb-true, eqb-true, cases_lt, cases_Bool, le-ltb}
use Rattle.std.proofs.lemmas.List.Elements.{filter_map-append}
use Rattle.mesh_data.specs.declared.any_mesh.AnyMesh.{AnyMesh}
use Rattle.cpl_plan.specs.ExchangeKinds.{is_implicit}
use Rattle.cpl_plan.specs.PlanTests.{has_iterations}
use Rattle.cpl_plan.specs.ValidPlan.{IsValidPlan}
use Rattle.cpl_plan.specs.declared.parts.PlanParts.{PlanParts}
use Rattle.cpl_plan.specs.declared.parts.Scheme.{Scheme}
use Rattle.cpl_plan.specs.declared.words.Fault.{Fault}
use Rattle.cpl_plan.proofs.Readings.{each_at}
use Rattle.solver_trait.specs.Behaviour.{Behaviour}
use Rattle.coupled_loop.specs.Endings.{Ending, done}
use Rattle.coupled_loop.specs.Solving.{Held}
use Rattle.coupled_loop.specs.CoupledLoop.{Part, first_posted, opening_held, ending_in}
use Rattle.coupled_loop.specs.Schedules.{Actor, Entry, next, opening_actors}
use Rattle.coupled_loop.specs.PlanFrames.{iterations_of}
use Rattle.core_laws.specs.Laws.{HasNoQuits, IsPrefix}
use Rattle.core_laws.proofs.PlanSound.{plan_sound}
use Rattle.core_laws.proofs.Ends.{prefix, same_end}
use Rattle.wave_coupling.specs.Posts.{Post}
use Rattle.wave_coupling.specs.Noted.{Note}
use Rattle.wave_coupling.specs.Solve.{Run}
use Rattle.wave_coupling.specs.Coupling.{exchanged, wave_frame, wave_solvers}
use Rattle.wave_coupling.specs.LoopResults.{as_reading, fault_of, readings_in, loop_results}
use Rattle.wave_laws.specs.Left.{WaveActors, parts_left, readings_left, results_left, wave_loop, IsWaveSchedule}
use Rattle.wave_laws.proofs.Settling.{wave_settled}
use Rattle.wave_laws.proofs.Outside.{loop_off, schedule_off}
use Rattle.wave_laws.proofs.SameResults.{results_same, without_meshes}

-- no plan has more iterations than this
pub few_iterations : (plan : PlanParts) → IsValidPlan plan → (scheme : ℕ) → iterations_of plan scheme ≤ 1000
few_iterations plan valid number = of (slice_get plan.schemes number) refl
  where
    of : (o : Option Scheme) → slice_get plan.schemes number ≡ o → option_map_or (λ s. s.max) o 0 ≤ 1000
    of None at = omega arith
    of (Some scheme) at =
        let counts = each_at (λ _ z. has_iterations z) plan.schemes valid.schemes.iterations number scheme at in
        elim (cases_Bool (is_implicit scheme.kind)) [
          | inl implicit ↦
              let has = sym (ap (λ b. cond b (nat_le 1 scheme.min && nat_le scheme.min scheme.max && nat_le scheme.max (10 ^ 3)) (nat_eq scheme.min 1 && nat_eq scheme.max 1)) implicit) ∙ counts in
              leb-true scheme.max 1000 (and_parts (nat_le 1 scheme.min && nat_le scheme.min scheme.max) (nat_le scheme.max (10 ^ 3)) has).1
          | inr explicit ↦
              let has = sym (ap (λ b. cond b (nat_le 1 scheme.min && nat_le scheme.min scheme.max && nat_le scheme.max (10 ^ 3)) (nat_eq scheme.min 1 && nat_eq scheme.max 1)) explicit) ∙ counts in
              let one : scheme.max ≡ 1 = eqb-true scheme.max 1 (and_parts (nat_eq scheme.min 1) (nat_eq scheme.max 1) has).1 in
              omega (arith, one)
        ]

-- an ending has a fault as it does where the last window's is none
fault_same : (stopped : Option (Ending Fault)) → option_and_then fault_of (Some (option_map_or (λ (ending : Ending Fault). ending) stopped done)) ≡ option_and_then fault_of stopped
fault_same None = refl
fault_same (Some ending) = refl

module _ {State : Type 0} (plan : PlanParts) (meshes : ℕ → List AnyMesh) (solvers : ℕ → Behaviour State) (states : ℕ → State) (valid : IsValidPlan plan)
    (schedule : List Entry) (actors : WaveActors State) (is : IsWaveSchedule plan meshes solvers states schedule actors) where
  abbrev own : ℕ
  own = length plan.parts

  -- what is read is the beginning of what is read in the loop
  pub readings_begin : (part : ℕ) → part < length plan.parts
      → IsPrefix (readings_left plan meshes actors part) (readings_in plan meshes (wave_loop plan meshes solvers states) part)
  readings_begin part below =
      let notes = prefix (wave_frame plan) (wave_solvers plan meshes solvers states) (plan_sound plan (exchanged plan) valid) (wave_settled plan valid) schedule actors part is below in
      (filter_map as_reading notes.0, ap (filter_map as_reading) notes.1 ∙ filter_map-append as_reading (actors part).held.notes notes.0)

  module _ (none : HasNoQuits schedule)
      (stuck : (other : ℕ) → other < length plan.parts → next (wave_frame plan) (wave_solvers plan meshes solvers states) actors other ≡ None) where
    end_of : (part : ℕ) → part < length plan.parts
        → ((actors part).held ≡ (wave_loop plan meshes solvers states part).held) × ((actors part).side.given ≡ (wave_loop plan meshes solvers states part).given)
        × ((actors part).side.ending ≡ Some (ending_in (wave_loop plan meshes solvers states part)))
    end_of part below =
        same_end (wave_frame plan) (wave_solvers plan meshes solvers states) (plan_sound plan (exchanged plan) valid) (wave_settled plan valid) schedule actors part is none stuck below

    -- what has no number of a participant is as it was at first
    abbrev nobody : (part : ℕ) → Part (List AnyMesh) Post Fault State Note
    nobody part = record { held = opening_held (wave_frame plan) (wave_solvers plan meshes solvers states) part; given = []; stopped = None }

    unopened : (part : ℕ) → length plan.parts ≤ part → wave_loop plan meshes solvers states part ≡ nobody part
    unopened part past =
        loop_off (wave_frame plan) (wave_solvers plan meshes solvers states) part (λ below. lt_irrefl part (lt_of_lt_of_le below past)) (plan_sound plan (exchanged plan) valid)
        ∙ ap (λ (b : Bool). if b then
        first_posted (wave_frame plan) (wave_solvers plan meshes solvers states) (opening_held (wave_frame plan) (wave_solvers plan meshes solvers states) part)
        ((wave_solvers plan meshes solvers states).first part (opening_held (wave_frame plan) (wave_solvers plan meshes solvers states) part).received (states part))
        else nobody part)
        (le-ltb part (length plan.parts) past)

    unmoved : (part : ℕ) → length plan.parts ≤ part → actors part ≡ opening_actors (wave_frame plan) (wave_solvers plan meshes solvers states) part
    unmoved part past =
        schedule_off (wave_frame plan) (wave_solvers plan meshes solvers states) part (λ below. lt_irrefl part (lt_of_lt_of_le below past)) schedule actors is

    held_same : (part : ℕ) → without_meshes (actors part).held ≡ without_meshes (wave_loop plan meshes solvers states part).held
    held_same part = elim (cases_lt part (length plan.parts)) [
      | inl below ↦ ap (λ (h : Held (List AnyMesh) State Note). without_meshes h) (end_of part below).0
      | inr past ↦
          ap (λ (a : Actor (List AnyMesh) Post Fault State (Run State) Note). without_meshes a.held) (unmoved part past)
          ∙ sym (ap (λ (p : Part (List AnyMesh) Post Fault State Note). without_meshes p.held) (unopened part past))
    ]

    given_same : (part : ℕ) → (actors part).side.given ≡ (wave_loop plan meshes solvers states part).given
    given_same part = elim (cases_lt part (length plan.parts)) [
      | inl below ↦ (end_of part below).1
      | inr past ↦
          ap (λ (a : Actor (List AnyMesh) Post Fault State (Run State) Note). a.side.given) (unmoved part past)
          ∙ sym (ap (λ (p : Part (List AnyMesh) Post Fault State Note). p.given) (unopened part past))
    ]

    stopped_same : (part : ℕ) → option_and_then fault_of (actors part).side.ending ≡ option_and_then fault_of (wave_loop plan meshes solvers states part).stopped
    stopped_same part = elim (cases_lt part (length plan.parts)) [
      | inl below ↦ ap (λ (o : Option (Ending Fault)). option_and_then fault_of o) (end_of part below).2 ∙ fault_same (wave_loop plan meshes solvers states part).stopped
      | inr past ↦
          ap (λ (a : Actor (List AnyMesh) Post Fault State (Run State) Note). option_and_then fault_of a.side.ending) (unmoved part past)
          ∙ sym (ap (λ (p : Part (List AnyMesh) Post Fault State Note). option_and_then fault_of p.stopped) (unopened part past))
    ]

    -- all results are those of the loop
    pub results_end : results_left plan meshes actors ≡ loop_results plan meshes solvers states
    results_end = results_same plan meshes (parts_left actors) (wave_loop plan meshes solvers states) held_same given_same stopped_same
