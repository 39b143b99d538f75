-- What holds of all participants along every schedule.
use Rattle.std.proofs.Common.{◌≡◌, inl, inr, ℕ, ◌<◌, Bool, List, [], ◌∷◌, length, Some, refl, ap, sym, subst, ◌∙◌, append-nil}
use Rattle.std.proofs.lemmas.List.Elements.{All-nil}
use Rattle.std.proofs.lemmas.Option.{none-some}
use Rattle.mesh_data.specs.declared.any_mesh.AnyMesh.{AnyMesh}
use Rattle.cpl_plan.specs.declared.parts.PlanParts.{PlanParts}
use Rattle.cpl_plan.specs.declared.words.Fault.{Fault}
use Rattle.solver_trait.specs.Behaviour.{Behaviour}
use Rattle.coupled_loop.specs.Numbered.{put}
use Rattle.coupled_loop.specs.Given.{found}
use Rattle.coupled_loop.specs.CoreState.{CoreState, look_in}
use Rattle.coupled_loop.specs.Frames.{Frame}
use Rattle.coupled_loop.specs.Schedules.{Actor, Entry, go, quit, run_out, participant_of, enabled, opening_actors, sides_of, Leads}
use Rattle.coupled_loop.specs.Settled.{Extends, IsSettled}
use Rattle.coupled_loop.specs.Solving.{Solvers}
use Rattle.core_laws.proofs.Growth.{grown_extends, step_extends}
use Rattle.core_laws.proofs.PlanSound.{plan_sound}
use Rattle.core_laws.proofs.Puts.{put_other}
use Rattle.core_laws.proofs.Sound.{IsSound}
use Rattle.core_laws.proofs.Stays.{GoesBy, enabled_by, enabled_well, sides_put}
use Rattle.core_laws.proofs.Well.{IsWell}
use Rattle.core_laws.proofs.Wellness.{put_each, opening_well}
use Rattle.wave_coupling.specs.Noted.{Note}
use Rattle.wave_coupling.specs.Posts.{Post}
use Rattle.wave_coupling.specs.Solve.{Inputs, Run}
use Rattle.wave_coupling.specs.Coupling.{exchanged, wave_frame, wave_solvers}
use Rattle.wave_laws.specs.Left.{IsWaveSchedule, WaveActors}
use Rattle.wave_laws.proofs.Settling.{wave_settled}
use Rattle.wave_values.specs.Fits.{IsNoteOf}
use Rattle.wave_readings.specs.Setting.{known_of}
use Rattle.wave_readings.proofs.Knowing.{IsKnowing}
use Rattle.wave_readings.proofs.Invariant.{ActorFits, actor_on}
use Rattle.wave_readings.proofs.Kept.{goes_fits, quits_fits, lacks_fits}

module _ {State : Type 0} (plan : PlanParts) (vertices : ℕ → ℕ) (meshes : ℕ → List AnyMesh) (solvers : ℕ → Behaviour State) (states : ℕ → State) (sound : ℕ → State → Bool)
    (setting : IsKnowing plan vertices meshes solvers states sound) where
  abbrev frame : Frame Post Inputs Fault
  frame = wave_frame plan

  abbrev own : Solvers (List AnyMesh) Post Inputs Fault State (Run State) Note
  own = wave_solvers plan meshes solvers states

  abbrev OneActor : Type 0
  OneActor = Actor (List AnyMesh) Post Fault State (Run State) Note

  abbrev sides_in : WaveActors State → CoreState (List AnyMesh) Post Fault
  sides_in actors = sides_of frame own actors

  abbrev pub AllFit : WaveActors State → Type 0
  AllFit actors = (part : ℕ) → part < length plan.parts → ActorFits plan vertices sound meshes (look_in (sides_of (wave_frame plan) (wave_solvers plan meshes solvers states) actors)) part (actors part)

  abbrev AreWell : WaveActors State → Type 0
  AreWell actors = IsWell frame (sides_in actors)

  is_sound : IsSound (wave_frame plan)
  is_sound = plan_sound plan (exchanged plan) setting.valid

  settled : IsSettled (wave_frame plan)
  settled = wave_settled plan setting.valid

  -- what was given stays so
  goes_further : (actors : WaveActors State) (part : ℕ) (actor : OneActor) → GoesBy frame own actors part actor.side → Extends (look_in (sides_in actors)) (look_in (put (sides_in actors) part actor.side))
  goes_further actors part actor (inl same) =
      grown_extends (sides_in actors) part actor.side ([], ap (λ s. s.given) same ∙ sym (append-nil (actors part).side.given))
  goes_further actors part actor (inr by_core) = step_extends frame (sides_in actors) part by_core.0 by_core.1 actor.side by_core.2

  -- an entry's participant
  acting_fits : (actors : WaveActors State) → AreWell actors → AllFit actors → (entry : Entry) (actor : OneActor) → participant_of entry < length plan.parts → enabled frame own actors entry ≡ Some actor
      → ActorFits plan vertices sound meshes (look_in (put (sides_in actors) (participant_of entry) actor.side)) (participant_of entry) actor
  acting_fits actors well each (go part) actor below e = goes_fits plan vertices meshes solvers states sound setting actors well each part below actor e
  acting_fits actors well each (quit part) actor below e = quits_fits plan vertices meshes solvers states sound setting actors well each part below actor e
  acting_fits actors well each (run_out part) actor below e = lacks_fits plan vertices meshes solvers states sound setting actors well each part below actor e

  entry_fits : (actors : WaveActors State) → AreWell actors → AllFit actors → (entry : Entry) (actor : OneActor) → participant_of entry < length plan.parts → enabled frame own actors entry ≡ Some actor
      → AllFit (put actors (participant_of entry) actor)
  entry_fits actors well each entry actor below e one inside =
      subst (λ (s : CoreState (List AnyMesh) Post Fault). ActorFits plan vertices sound meshes (look_in s) one (put actors part actor one)) (sym (sides_put frame own actors part actor))
      (put_each (λ (n : ℕ) (a : OneActor). n < length plan.parts → ActorFits plan vertices sound meshes (look_in (put (sides_in actors) part actor.side)) n a) actors part actor
      (λ within. acting_fits actors well each entry actor below e)
      (λ n apart within. actor_on plan vertices sound meshes (look_in (sides_in actors)) (look_in (put (sides_in actors) part actor.side))
      (goes_further actors part actor (enabled_by frame own actors entry actor e)) n (actors n)
      (λ item. ap (λ s. found s.given item) (put_other (sides_in actors) part actor.side n apart)) (each n within)) one inside)
    where
      part : ℕ
      part = participant_of entry

  leads_fit : (schedule : List Entry) (from to : WaveActors State) → AreWell from → AllFit from → Leads frame own from schedule to → AllFit to
  leads_fit [] from to well each leads = subst (λ (s : WaveActors State). AllFit s) leads each
  leads_fit (entry ∷ rest) from to well each leads =
      leads_fit rest (put from (participant_of entry) leads.0) to (enabled_well frame own is_sound settled from entry leads.0 well leads.1 leads.2)
      (entry_fits from well each entry leads.0 leads.1 leads.2) leads.3

  opening_fits : AllFit (opening_actors frame own)
  opening_fits part below = record {
    gifts = λ item gift at. absurd (none-some gift at);
    held = record { state = setting.starts part below; kept = setting.starts part below; notes = All-nil (IsNoteOf plan part (known_of plan meshes part)) };
    place = tt;
    sent = inl refl;
  }

  -- after every schedule
  pub schedule_fits : (schedule : List Entry) (actors : WaveActors State) → IsWaveSchedule plan meshes solvers states schedule actors → AllFit actors
  schedule_fits schedule actors is = leads_fit schedule (opening_actors frame own) actors (opening_well frame) opening_fits is

  -- and all gifts are in order
  leads_order : (schedule : List Entry) (from to : WaveActors State) → AreWell from → Leads frame own from schedule to → AreWell to
  leads_order [] from to well leads = subst (λ (s : WaveActors State). AreWell s) leads well
  leads_order (entry ∷ rest) from to well leads =
      leads_order rest (put from (participant_of entry) leads.0) to (enabled_well frame own is_sound settled from entry leads.0 well leads.1 leads.2) leads.3

  pub schedule_well : (schedule : List Entry) (actors : WaveActors State) → IsWaveSchedule plan meshes solvers states schedule actors → IsWell (wave_frame plan) (sides_of (wave_frame plan) (wave_solvers plan meshes solvers states) actors)
  schedule_well schedule actors is = leads_order schedule (opening_actors frame own) actors (opening_well frame) is
