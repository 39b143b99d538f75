-- At the end of a window its watch-points can be read, and have a row each.
use Rattle.std.proofs.Common.{◌≡◌, inl, inr, ℕ, ◌+◌, ◌<◌, ◌≤◌, List, [], ◌∷◌, map, length, Some, ap, sym, ◌∙◌, arith}
use Rattle.std.specs.List.{enumerate_from}
use Rattle.std.proofs.lemmas.List.{length-map}
use Rattle.std.proofs.lemmas.List.Elements.{All-cons, All-nil, All-weaker}
use Rattle.waveform.specs.declared.sample.Sample.{Sample}
use Rattle.mesh_data.specs.declared.any_mesh.AnyMesh.{AnyMesh}
use Rattle.cpl_plan.specs.ValidPlan.{IsValidPlan}
use Rattle.cpl_plan.specs.declared.parts.PlanParts.{PlanParts}
use Rattle.cpl_plan.specs.declared.parts.Watch.{Watch}
use Rattle.cpl_plan.specs.declared.words.WatchRow.{WatchRow}
use Rattle.wave_coupling.specs.Known.{Known}
use Rattle.participant_words.specs.Course.{Turn}
use Rattle.participant_words.specs.KnownByReply.{known_by}
use Rattle.participant_words.specs.WatchShown.{watch_row, watch_rows, watches}
use Rattle.participant_tables.specs.Named.{Called}
use Rattle.participant_tables.specs.WriteKept.{WriteKept}
use Rattle.participant_tables.specs.declared.clock.Clock.{Clock}
use Rattle.participant_tables.specs.declared.read_table.ReadEntry.{ReadEntry}
use Rattle.participant_waves.specs.KnownMeshes.{HasMeshes}
use Rattle.participant_waves.specs.PassagesStand.{ArePassages}
use Rattle.participant_waves.specs.Readable.{IsReadable}
use Rattle.participant_waves.specs.declared.kept_input.KeptInput.{KeptInput}
use Rattle.participant_waves.specs.declared.passages.Passages.{Passages}
use Rattle.participant_state.specs.Agenda.{HasStepped}
use Rattle.participant_waves.specs.CanShow.{CanShow}
use Rattle.call_parts.specs.RowsKept.{AreOf}
use Rattle.participant_state.specs.Together.{AreFilled, AreRead, IsInTime, IsOfPlan}
use Rattle.participant_state.proofs.EntriesStand.{entries_stand}

-- what can be read until the end of the window can be read now
pub now_readable : (now latest : ℕ) (input : KeptInput) → now ≤ latest → IsReadable now latest input.wave → IsReadable now now input.wave
now_readable now latest input within (inl one) = inl one
now_readable now latest input within (inr span) = inr (span.0, omega (arith, within, span.1))

module _ (plan : PlanParts) (part : ℕ) (valid : IsValidPlan plan) (names : Called) (own received : List AnyMesh) (writes : List WriteKept) (reads : List ReadEntry)
    (clock : Clock) (inputs : List KeptInput) (times : List ℕ) (passages : Passages) where
  pub can_show : IsOfPlan plan part names own writes reads → AreFilled own writes times → IsInTime plan part clock times → AreRead own reads clock inputs
      → HasMeshes plan part own received → ArePassages plan part (known_by plan part own received) passages
      → HasStepped plan part clock (Some passages) inputs times
      → CanShow plan passages.watches reads writes inputs clock
  can_show of filled in_time read meshes stand stepped = record {
    part = part;
    known = known_by plan part own received;
    participant = of.participant;
    meshes = meshes.provided;
    followed = stand.watches;
    entries = entries_stand plan part valid names own received writes reads times of filled;
    stepped =
        All-weaker (λ (e : WriteKept). map (λ s. s.time) e.samples ≡ times) (λ e. 1 ≤ length e.samples)
        (λ e same. let long : length e.samples ≡ length times = sym (length-map e.samples (λ (s : Sample). s.time)) ∙ ap (λ (xs : List ℕ). length xs) same in omega (arith, long, stepped.stepped))
        writes filled.samples;
    opened = of.read;
    taken = stepped.begun.taken;
    spans =
        All-weaker (λ (input : KeptInput). IsReadable clock.now clock.latest input.wave) (λ input. IsReadable clock.now clock.now input.wave)
        (λ input span. now_readable clock.now clock.latest input in_time.within span) inputs read.spans;
    rows = read.rows;
  }

-- each row is of one of the watch-points
rows_from : (plan : PlanParts) (part : ℕ) (known : Known) (turn : Turn) (count n : ℕ) (ws : List Watch) → n + length ws ≤ count
    → AreOf count (map (λ at. watch_row plan part known turn at.0 at.1) (enumerate_from n ws))
rows_from plan part known turn count n [] few = All-nil (λ (row : WatchRow). row.watch < count)
rows_from plan part known turn count n (w ∷ ws) few =
    All-cons (λ (row : WatchRow). row.watch < count) (watch_row plan part known turn n w) (map (λ at. watch_row plan part known turn at.0 at.1) (enumerate_from (n + 1) ws))
    (omega (arith, few)) (rows_from plan part known turn count (n + 1) ws (omega (arith, few)))

pub rows_of_watches : (plan : PlanParts) (part : ℕ) (known : Known) (turn : Turn) → AreOf (length (watches plan part)) (watch_rows plan part known turn)
rows_of_watches plan part known turn = rows_from plan part known turn (length (watches plan part)) 0 (watches plan part) (omega arith)
