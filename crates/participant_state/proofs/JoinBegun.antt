-- All that stands once the inputs of a turn are there, and what the participant has become.
use Rattle.std.proofs.Common.{◌≡◌, ℕ, ◌≤◌, true, false, List, [], map, All, Option, Some, None, Ok, refl, ap, sym, subst, ◌∙◌, arith}
use Rattle.std.specs.Prelude.{option_map}
use Rattle.mesh_data.specs.declared.any_mesh.AnyMesh.{AnyMesh}
use Rattle.cpl_plan.specs.ValidPlan.{IsValidPlan}
use Rattle.cpl_plan.specs.Windows.{window_end, latest_end}
use Rattle.cpl_plan.specs.declared.parts.PlanParts.{PlanParts}
use Rattle.cpl_plan.specs.declared.parts.WindowMethod.TheVariants.{Fixed, FirstParticipant}
use Rattle.core_sides.specs.declared.event.Input.{Input}
use Rattle.wave_coupling.specs.MappedInputs.{mapped_inputs}
use Rattle.participant_words.specs.Begun.{input_wave_of, latest_of, newest_input_time}
use Rattle.participant_words.specs.Course.{Course, known}
use Rattle.participant_words.specs.Replies.{AreInputs}
use Rattle.participant_words.specs.declared.phase.Phase.TheVariants.{Running}
use Rattle.participant_words.specs.declared.phase.EventKind.TheVariants.{Take}
use Rattle.participant_tables.specs.Named.{Called}
use Rattle.participant_tables.specs.Queued.{Queued}
use Rattle.participant_tables.specs.WriteKept.{WriteKept}
use Rattle.participant_tables.specs.declared.clock.Clock.{Clock}
use Rattle.participant_tables.specs.declared.read_table.ReadEntry.{ReadEntry}
use Rattle.participant_waves.specs.Readable.{HasRowsOf, IsReadable}
use Rattle.participant_waves.specs.declared.kept_input.KeptInput.{KeptInput}
use Rattle.participant_waves.specs.declared.passages.Passages.{Passages}
use Rattle.participant_state.specs.Agenda.{Stands, StandsIn, agenda}
use Rattle.participant_state.specs.Kept.{input_kept, kind_out}
use Rattle.participant_state.specs.Together.{AreRead, IsInTime, IsOfPlan}
use Rattle.participant_state.proofs.JoinReads.{kept_many, kept_rows, kept_span}
use Rattle.participant_state.proofs.JoinStands.{inputs_asked, nothing_waits}
use Rattle.call_parts.proofs.Latest.{latest_is}

module _ (plan : PlanParts) (part : ℕ) (names : Called) (own : List AnyMesh) (writes : List WriteKept) (reads : List ReadEntry) (clock : Clock) (passages : Option Passages)
    (before : List KeptInput) (times : List ℕ) (queue : Queued) (of : IsOfPlan plan part names own writes reads) (in_time : IsInTime plan part clock times)
    (stands : Stands plan part own clock passages before times (agenda queue)) (out : option_map kind_out queue.out ≡ Some Take) where
  -- nothing waits once the inputs are taken
  pub agenda_through : agenda (record queue { out = None }) ≡ []
  agenda_through = nothing_waits plan part own clock passages before times queue out stands

  module _ (c : Course) (inputs : List Input) (come : AreInputs plan part c inputs) (own_is : c.own ≡ own) (start_is : c.turn.start ≡ clock.start) (window_is : c.turn.window ≡ clock.window)
      (started : Clock) (newest : ℕ) (newest_is : newest ≡ newest_input_time inputs) (rest : started ≡ record clock { latest = started.latest; now = clock.start; steps = 0 })
      (by_plan : plan.method ≡ Fixed → (ends : List ℕ) → window_end plan ends clock.window ≡ Some started.latest)
      (by_own_step : plan.method ≡ FirstParticipant → clock.one_step ≡ true → started.latest ≡ latest_end plan clock.start)
      (by_the_step_made : plan.method ≡ FirstParticipant → clock.one_step ≡ false → started.latest ≡ newest) where
    latest_told : started.latest ≡ latest_of plan part c.turn (newest_input_time inputs)
    latest_told =
        latest_is plan part c.turn newest started.latest clock.one_step in_time.one_step
        (λ is ends. ap (window_end plan ends) window_is ∙ by_plan is ends)
        (λ is own_step. by_own_step is own_step ∙ ap (latest_end plan) (sym start_is))
        by_the_step_made
        ∙ ap (latest_of plan part c.turn) newest_is

    pub started_is : started ≡ record clock { latest = latest_of plan part c.turn (newest_input_time inputs); now = clock.start; steps = 0 }
    started_is = rest ∙ ap (λ (t : ℕ). record clock { latest = t; now = clock.start; steps = 0 }) latest_told

    now_is : started.now ≡ clock.start
    now_is = ap (λ (k : Clock). k.now) rest

    pub time_begun : IsInTime plan part started []
    time_begun =
        let same_start : started.start ≡ clock.start = ap (λ (k : Clock). k.start) rest in
        let begins : c.turn.start ≤ latest_of plan part c.turn (newest_input_time inputs) = come.begins in
        let ends : latest_of plan part c.turn (newest_input_time inputs) ≤ plan.end_time = come.ends in
        record {
          one_step = ap (λ (k : Clock). k.one_step) rest ∙ in_time.one_step;
          steps = ap (λ (k : Clock). k.steps) rest;
          past = λ k d within. absurd (omega (arith, within));
          started = omega (arith, same_start, now_is);
          within = omega (arith, now_is, start_is, latest_told, begins);
          ended = omega (arith, latest_told, ends);
        }

    module _ (kept : List KeptInput) (made : mapped_inputs plan part (known plan part c) c.turn.window c.turn.iteration (map input_wave_of inputs) ≡ Ok (map input_kept kept)) where
      pub read_begun : IsValidPlan plan → AreRead own reads started kept
      read_begun valid = record {
        spans =
            subst (λ (end : ℕ). All (λ (input : KeptInput). IsReadable started.now end input.wave) kept) (sym latest_told)
            (subst (λ (start : ℕ). All (λ (input : KeptInput). IsReadable start (latest_of plan part c.turn (newest_input_time inputs)) input.wave) kept) (start_is ∙ sym now_is)
            (kept_span plan part c inputs come (map input_kept kept) made kept refl));
        rows =
            subst (λ (entries : List ReadEntry). All (HasRowsOf own kept) entries) (sym of.read)
            (kept_rows plan part c inputs come (map input_kept kept) made kept refl valid own (sym own_is) of.meshes);
      }

      pub stands_begun : StandsIn plan part own started passages kept [] Running (agenda (record queue { out = None }))
      stands_begun =
          let asked = inputs_asked plan part own clock passages before times queue out stands in
          let same_window : started.window ≡ clock.window = ap (λ (k : Clock). k.window) rest in
          let least : 1 ≤ clock.window = asked.window in
          let most : clock.window ≤ plan.most_windows = asked.there in (
            agenda_through,
            record {
              in_window = record { joined = asked.joined; window = omega (arith, same_window, least); there = omega (arith, same_window, most) };
              taken = kept_many plan part c inputs come (map input_kept kept) made kept refl;
            },
            omega (arith),
          )
