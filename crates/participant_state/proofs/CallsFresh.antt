-- What is kept of a participant before its first call is the course of no deed.
use Rattle.std.proofs.Common.{◌≡◌, ℕ, List, [], None, ap, ◌∙◌}
use Rattle.std.specs.Prelude.{option_map}
use Rattle.mesh_data.specs.declared.any_mesh.AnyMesh.{AnyMesh}
use Rattle.cpl_plan.specs.declared.parts.PlanParts.{PlanParts}
use Rattle.cpl_plan.specs.declared.words.WatchRow.{WatchRow}
use Rattle.participant_words.specs.Course.{opening, no_turn, not_asked}
use Rattle.participant_words.specs.declared.phase.Phase.TheVariants.{Fresh}
use Rattle.participant_tables.specs.Queued.{Queued}
use Rattle.participant_tables.specs.Vertices.{opening_meshes}
use Rattle.participant_tables.specs.WriteKept.{WriteKept}
use Rattle.participant_tables.specs.WriteSteps.{opening_writes}
use Rattle.participant_tables.specs.declared.clock.Clock.{Clock}
use Rattle.participant_waves.specs.declared.kept_input.KeptInput.{KeptInput}
use Rattle.participant_state.specs.Kept.{kind_out, buffers_of, turn_of}
use Rattle.participant_state.specs.Member.{Member}
use Rattle.participant_state.proofs.CallsOpening.{opening_clock, opening_buffers}

fresh_turn : (plan : PlanParts) (part : ℕ) (clock : Clock) (inputs : List KeptInput) (times : List ℕ) (writes : List WriteKept)
    → clock ≡ opening_clock plan part → inputs ≡ [] → times ≡ [] → turn_of clock inputs times writes ≡ no_turn
fresh_turn plan part clock inputs times writes is_clock is_inputs is_times =
    ap (λ (c : Clock). turn_of c inputs times writes) is_clock
    ∙ ap (λ (xs : List KeptInput). turn_of (opening_clock plan part) xs times writes) is_inputs
    ∙ ap (λ (ts : List ℕ). turn_of (opening_clock plan part) [] ts writes) is_times

module _ (plan : PlanParts) (part : ℕ) (own received : List AnyMesh) (writes : List WriteKept) (clock : Clock) (inputs : List KeptInput)
    (sources : List (ℕ × ℕ)) (times : List ℕ) (queue : Queued) (rows : List WatchRow) where
  abbrev kept : Member
  kept = record {
    plan = plan;
    part = part;
    course = record {
      phase = Fresh;
      own = own;
      received = received;
      buffers = buffers_of writes;
      asked = not_asked;
      turn = turn_of clock inputs times writes;
      sources = sources;
      complete = clock.complete;
      queue = queue.waiting;
      out = option_map kind_out queue.out;
      overflow = None;
      steps = 0;
      rows = rows;
    };
  }

  abbrev none_yet : Member
  none_yet = record { plan = plan; part = part; course = opening plan part }

  pub fresh_course : own ≡ opening_meshes plan part → received ≡ [] → writes ≡ opening_writes plan part → clock ≡ opening_clock plan part → inputs ≡ []
      → sources ≡ [] → times ≡ [] → queue.waiting ≡ [] → queue.out ≡ None → rows ≡ [] → kept ≡ none_yet
  fresh_course is_own is_received is_writes is_clock is_inputs is_sources is_times is_waiting is_out is_rows =
      let turn : turn_of clock inputs times writes ≡ no_turn = fresh_turn plan part clock inputs times writes is_clock is_inputs is_times in
      let buffers = ap buffers_of is_writes ∙ opening_buffers plan part in
      λ i. record {
        plan = plan;
        part = part;
        course = record {
          phase = Fresh;
          own = is_own i;
          received = is_received i;
          buffers = buffers i;
          asked = not_asked;
          turn = turn i;
          sources = is_sources i;
          complete = (is_clock i).complete;
          queue = is_waiting i;
          out = option_map kind_out (is_out i);
          overflow = None;
          steps = 0;
          rows = is_rows i;
        };
      }
