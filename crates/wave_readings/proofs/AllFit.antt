-- What is read has as many Values as its entry, and what is posted fits: after every schedule, and in the loop.
use Rattle.std.proofs.Common.{◌≡◌, inl, inr, ℕ, zero, suc, ◌<◌, ◌≤◌, Bool, if◌then◌else◌, List, [], ◌∷◌, filter_map, length, map, Some, None, All, ap, sym, subst, ◌∙◌, arith, lt_irrefl, lt_of_lt_of_le}
use Rattle.std.proofs.Math.Path.{fun_ext}
use Rattle.std.proofs.lemmas.Bool.{cases_lt, le-ltb}
use Rattle.std.proofs.lemmas.List.Elements.{All-cons, All-head, All-nil, All-tail}
use Rattle.mesh_data.specs.declared.any_mesh.AnyMesh.{AnyMesh}
use Rattle.cpl_plan.specs.declared.parts.PlanParts.{PlanParts}
use Rattle.cpl_plan.specs.declared.words.Fault.{Fault}
use Rattle.cpl_plan.specs.declared.words.Item.TheVariants.{Completed, Posted}
use Rattle.solver_trait.specs.Behaviour.{Behaviour}
use Rattle.coupled_loop.specs.Given.{Gift, Look, found}
use Rattle.coupled_loop.specs.CoupledLoop.{Part, ending_in, first_posted, look_at, opening_held}
use Rattle.coupled_loop.specs.Schedules.{Actor, Entry, go, next, opening_actors}
use Rattle.coupled_loop.specs.Solving.{Held}
use Rattle.cpl_plan.specs.declared.words.Item.{Item}
use Rattle.core_laws.proofs.Nets.{Goes}
use Rattle.wave_laws.specs.Fitting.{end_told}
use Rattle.coupled_loop.specs.Settled.{IsInOrder}
use Rattle.core_laws.proofs.Looks.{extends_itself}
use Rattle.core_laws.proofs.LoopRuns.{loop_runs}
use Rattle.core_laws.proofs.PlanSound.{plan_sound}
use Rattle.core_laws.proofs.SystemNets.{gone_leads}
use Rattle.wave_coupling.specs.LoopResults.{as_reading, readings_in}
use Rattle.wave_coupling.specs.Known.{Known}
use Rattle.wave_coupling.specs.Noted.{Note, reads, writes}
use Rattle.wave_coupling.specs.Posts.{Post}
use Rattle.wave_coupling.specs.Solve.{Run}
use Rattle.wave_coupling.specs.Coupling.{exchanged, start_of, wave_frame, wave_solvers}
use Rattle.wave_laws.specs.Left.{IsWaveSchedule, WaveActors, parts_left, readings_left, wave_loop}
use Rattle.wave_laws.proofs.Outside.{loop_off, schedule_off}
use Rattle.wave_laws.proofs.Settling.{wave_settled}
use Rattle.wave_values.specs.Fits.{IsFittingPost, IsNoteOf, IsReadingOf}
use Rattle.wave_readings.specs.Posted.{ArePostsFitting}
use Rattle.wave_readings.specs.Setting.{known_of}
use Rattle.wave_readings.proofs.Knowing.{IsKnowing}
use Rattle.wave_readings.proofs.Invariant.{GiftsFit}
use Rattle.wave_readings.proofs.Along.{schedule_fits, schedule_well}

readings_of_notes : (plan : PlanParts) (part : ℕ) (known : Known) (notes : List Note) → All (IsNoteOf plan part known) notes → All (IsReadingOf plan part known) (filter_map as_reading notes)
readings_of_notes plan part known [] fit = All-nil (IsReadingOf plan part known)
readings_of_notes plan part known (reads reading ∷ rest) fit =
    All-cons (IsReadingOf plan part known) reading (filter_map as_reading rest) (All-head (IsNoteOf plan part known) (reads reading) rest fit)
    (readings_of_notes plan part known rest (All-tail (IsNoteOf plan part known) (reads reading) rest fit))
readings_of_notes plan part known (writes written ∷ rest) fit = readings_of_notes plan part known rest (All-tail (IsNoteOf plan part known) (writes written) rest fit)

-- gifts that fit in each later look fit now
posts_of_gifts : (plan : PlanParts) (vertices : ℕ → ℕ) (f : Look Post) → IsInOrder f → (part : ℕ) → GiftsFit plan vertices f part → ArePostsFitting plan vertices f part
posts_of_gifts plan vertices f order part gifts = record {
  initial = λ gift at x e stands sends. gifts (Completed 0) gift at x e stands sends f (extends_itself f) order;
  completed = λ w gift first at. completed w first gift at;
  posted = λ w k gift at x e stands sends. gifts (Posted w k) gift at x e stands sends f (extends_itself f) order;
}
  where
    completed : (w : ℕ) → 1 ≤ w → (gift : Gift Post) → f part (Completed w) ≡ Some gift → IsFittingPost plan vertices part (start_of plan f w) (end_told plan f w) gift.post
    completed zero first gift at = absurd (omega (arith, first))
    completed (suc v) first gift at = λ x e stands sends. gifts (Completed (suc v)) gift at x e stands sends f (extends_itself f) order

module _ {State : Type 0} (plan : PlanParts) (vertices : ℕ → ℕ) (meshes : ℕ → List AnyMesh) (solvers : ℕ → Behaviour State) (states : ℕ → State) (sound : ℕ → State → Bool)
    (setting : IsKnowing plan vertices meshes solvers states sound) where
  pub readings_fit : (schedule : List Entry) (actors : WaveActors State) → IsWaveSchedule plan meshes solvers states schedule actors → (part : ℕ) → part < length plan.parts
      → All (IsReadingOf plan part (known_of plan meshes part)) (readings_left plan meshes actors part)
  readings_fit schedule actors is part below =
      readings_of_notes plan part (known_of plan meshes part) (actors part).held.notes (schedule_fits plan vertices meshes solvers states sound setting schedule actors is part below).held.notes

  pub posts_fit : (schedule : List Entry) (actors : WaveActors State) → IsWaveSchedule plan meshes solvers states schedule actors → (part : ℕ) → part < length plan.parts
      → ArePostsFitting plan vertices (look_at (parts_left actors)) part
  posts_fit schedule actors is part below =
      posts_of_gifts plan vertices (look_at (parts_left actors)) (schedule_well plan vertices meshes solvers states sound setting schedule actors is).in_order part
      (schedule_fits plan vertices meshes solvers states sound setting schedule actors is part below).gifts

  -- the loop is a schedule
  pub record IsLoop : Type 0 where
    pub schedule : List Entry
    pub actors : WaveActors State
    pub leads : IsWaveSchedule plan meshes solvers states schedule actors
    pub notes : (part : ℕ) → part < length plan.parts → (actors part).held.notes ≡ (wave_loop plan meshes solvers states part).held.notes
    pub given : (part : ℕ) → (actors part).side.given ≡ (wave_loop plan meshes solvers states part).given

  abbrev Runs : Type 0
  Runs =
      (schedule : List ℕ) × (actors : WaveActors State)
      × Goes (length plan.parts) (next (wave_frame plan) (wave_solvers plan meshes solvers states)) (opening_actors (wave_frame plan) (wave_solvers plan meshes solvers states)) schedule actors
      × ((part : ℕ) → part < length plan.parts
      → ((actors part).held ≡ (wave_loop plan meshes solvers states part).held) × ((actors part).side.given ≡ (wave_loop plan meshes solvers states part).given)
      × ((actors part).side.ending ≡ Some (ending_in (wave_loop plan meshes solvers states part))))

  -- what has no number of a participant is as it was at first
  abbrev nobody : (part : ℕ) → Part (List AnyMesh) Post Fault State Note
  nobody part = record { held = opening_held (wave_frame plan) (wave_solvers plan meshes solvers states) part; given = []; stopped = None }

  unopened : (part : ℕ) → length plan.parts ≤ part → wave_loop plan meshes solvers states part ≡ nobody part
  unopened part past =
      loop_off (wave_frame plan) (wave_solvers plan meshes solvers states) part (λ below. lt_irrefl part (lt_of_lt_of_le below past)) (plan_sound plan (exchanged plan) setting.valid)
      ∙ ap (λ (b : Bool). if b then
      first_posted (wave_frame plan) (wave_solvers plan meshes solvers states) (opening_held (wave_frame plan) (wave_solvers plan meshes solvers states) part)
      ((wave_solvers plan meshes solvers states).first part (opening_held (wave_frame plan) (wave_solvers plan meshes solvers states) part).received (states part))
      else nobody part)
      (le-ltb part (length plan.parts) past)

  of_runs : Runs → IsLoop
  of_runs run = record {
    schedule = map go run.0;
    actors = run.1;
    leads = leads;
    notes = λ part below. ap (λ (h : Held (List AnyMesh) State Note). h.notes) (run.3 part below).0;
    given = λ part. elim (cases_lt part (length plan.parts)) [
      | inl below ↦ (run.3 part below).1
      | inr past ↦
          ap (λ (a : Actor (List AnyMesh) Post Fault State (Run State) Note). a.side.given)
          (schedule_off (wave_frame plan) (wave_solvers plan meshes solvers states) part (λ below. lt_irrefl part (lt_of_lt_of_le below past)) (map go run.0) run.1 leads)
          ∙ sym (ap (λ (p : Part (List AnyMesh) Post Fault State Note). p.given) (unopened part past))
    ];
  }
    where
      leads : IsWaveSchedule plan meshes solvers states (map go run.0) run.1
      leads =
          gone_leads (wave_frame plan) (wave_solvers plan meshes solvers states) (plan_sound plan (exchanged plan) setting.valid) (wave_settled plan setting.valid)
          run.0 (opening_actors (wave_frame plan) (wave_solvers plan meshes solvers states)) run.1 run.2

  the_loop : IsLoop
  the_loop = of_runs (loop_runs (wave_frame plan) (wave_solvers plan meshes solvers states) (plan_sound plan (exchanged plan) setting.valid) (wave_settled plan setting.valid))

  pub loop_readings : (part : ℕ) → part < length plan.parts
      → All (IsReadingOf plan part (known_of plan meshes part)) (readings_in plan meshes (wave_loop plan meshes solvers states) part)
  loop_readings part below =
      subst (λ (notes : List Note). All (IsReadingOf plan part (known_of plan meshes part)) (filter_map as_reading notes)) (the_loop.notes part below)
      (readings_fit the_loop.schedule the_loop.actors the_loop.leads part below)

  same_look : look_at (parts_left the_loop.actors) ≡ look_at (wave_loop plan meshes solvers states)
  same_look = fun_ext (λ (part : ℕ). fun_ext (λ (item : Item). ap (λ (given : List (Gift Post)). found given item) (the_loop.given part)))

  pub loop_posts : (part : ℕ) → part < length plan.parts → ArePostsFitting plan vertices (look_at (wave_loop plan meshes solvers states)) part
  loop_posts part below =
      subst (λ (look : Look Post). ArePostsFitting plan vertices look part) same_look (posts_fit the_loop.schedule the_loop.actors the_loop.leads part below)
