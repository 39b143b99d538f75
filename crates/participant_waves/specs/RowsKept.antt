-- What watch-points show, of what is kept: of each entry on a mesh the values at a vertex, those of its last sample or those that are read. From the coupling documentation's watch-points.
use Rattle.std.specs.Prelude.{◌≡◌, ℕ, ◌-◌, ◌≤◌, ◌<◌, ◌&&◌, nat_eq, List, [], ◌++◌, All, map, filter, flat_map, position, length, slice_get, slice_index, ℤ, Some, IfSome}
use Rattle.std.specs.List.{enumerate_from}
use Rattle.std.specs.Option.{option_map_or}
use Rattle.cpl_plan.specs.declared.parts.PlanParts.{PlanParts}
use Rattle.cpl_plan.specs.declared.parts.PlanEntry.{PlanEntry}
use Rattle.cpl_plan.specs.declared.parts.Watch.{Watch}
use Rattle.cpl_plan.specs.declared.words.WatchRow.{WatchRow}
use Rattle.field_buffers.specs.Rows.{HasRow, row_of}
use Rattle.waveform.specs.WaveValue.{read}
use Rattle.wave_coupling.specs.Known.{read_entries, write_entries}
use Rattle.wave_coupling.specs.Posts.{Wave}
use Rattle.participant_words.specs.WatchShown.{watches}
use Rattle.participant_tables.specs.ReadKept.{opening_read}
use Rattle.participant_tables.specs.WriteKept.{WriteKept}
use Rattle.participant_tables.specs.declared.clock.Clock.{Clock}
use Rattle.participant_tables.specs.declared.read_table.ReadEntry.{ReadEntry}
use Rattle.participant_waves.specs.Readable.{IsReadable}
use Rattle.participant_waves.specs.declared.kept_input.KeptInput.{KeptInput}
use Rattle.participant_waves.specs.declared.watches.Watches.{Watches}

-- the values of the last sample of an entry
abbrev pub last_kept : WriteKept → List ℤ
last_kept e = option_map_or (λ s. s.field.values) (slice_get e.samples (length e.samples - 1)) []

abbrev pub row_written : (vertex : ℕ) → WriteKept → List ℤ
row_written vertex e = row_of e.components vertex (last_kept e)

abbrev pub row_read : (now vertex : ℕ) → ReadEntry → Wave → List ℤ
row_read now vertex e wave = row_of e.components vertex (read wave e.degree now)

-- of the entry that is kept at the place of one of the plan's
abbrev pub entry_written : (entries : List PlanEntry) → List WriteKept → (vertex : ℕ) → PlanEntry → List ℤ
entry_written entries writes vertex entry =
    option_map_or (λ place. option_map_or (row_written vertex) (slice_get writes place) [])
    (position (λ one. nat_eq one.data_id entry.data_id && nat_eq one.mesh entry.mesh) entries) []

abbrev pub entry_read : List KeptInput → (now vertex : ℕ) → ReadEntry → List ℤ
entry_read inputs now vertex e = option_map_or (λ input. row_read now vertex e input.wave) (slice_get inputs e.received) []

-- an entry has some sample, and values at a vertex
pub record HasWritten (vertex : ℕ) (e : WriteKept) : Type 0 where
  pub some : 1 ≤ length e.samples
  pub row : HasRow e.components e.values vertex

-- a wave can be read for an entry, at a vertex
pub record HasRead (now vertex : ℕ) (e : ReadEntry) (wave : Wave) : Type 0 where
  pub degree : e.degree ≤ 1
  pub time : IsReadable now now wave
  pub row : All (λ s. HasRow e.components s.field.values vertex) wave

-- those that are written of a mesh have values at one of its vertices
abbrev pub HaveWritten : (entries : List PlanEntry) → List WriteKept → (mesh vertex : ℕ) → Type 0
HaveWritten entries writes mesh vertex =
    (length writes ≡ length entries)
    × ((place : ℕ) (entry : PlanEntry) → slice_get entries place ≡ Some entry → entry.mesh ≡ mesh → IfSome (slice_get writes place) (HasWritten vertex))

-- an entry that is read has an input, which can be read at a vertex
pub record HasInput (inputs : List KeptInput) (now vertex : ℕ) (e : ReadEntry) : Type 0 where
  pub there : e.received < length inputs
  pub input : IfSome (slice_get inputs e.received) (λ input. HasRead now vertex e input.wave)

module _ (plan : PlanParts) (part : ℕ) where
  -- those that are read of a mesh have such inputs
  abbrev pub HaveInputs : List KeptInput → (now mesh vertex : ℕ) → Type 0
  HaveInputs inputs now mesh vertex =
      (place : ℕ) (entry : PlanEntry) → slice_get (read_entries plan part) place ≡ Some entry → entry.mesh ≡ mesh → HasInput inputs now vertex (opening_read plan part entry)

  abbrev pub all_written : List WriteKept → (mesh vertex : ℕ) → List PlanEntry → List ℤ
  all_written writes mesh vertex entries =
      flat_map (entry_written (write_entries plan part) writes vertex) (filter (λ entry. nat_eq entry.mesh mesh) entries)

  abbrev pub all_read : List KeptInput → (now mesh vertex : ℕ) → List PlanEntry → List ℤ
  all_read inputs now mesh vertex entries =
      flat_map (λ entry. entry_read inputs now vertex (opening_read plan part entry)) (filter (λ entry. nat_eq entry.mesh mesh) entries)

  -- first those that are written and then those that are read
  abbrev pub row_kept : List WriteKept → List KeptInput → (now mesh vertex : ℕ) → List ℤ
  row_kept writes inputs now mesh vertex =
      all_written writes mesh vertex (write_entries plan part) ++ all_read inputs now mesh vertex (read_entries plan part)

module _ (plan : PlanParts) (kept : Watches) (writes : List WriteKept) (inputs : List KeptInput) (clock : Clock) where
  -- the row of a watch-point
  abbrev pub watch_kept : (number : ℕ) → Watch → WatchRow
  watch_kept number watch = record {
    part = kept.part;
    watch = number;
    window = clock.window;
    values = row_kept plan kept.part writes inputs clock.now watch.mesh (slice_index kept.vertices number);
  }

  abbrev pub rows_kept : List WatchRow
  rows_kept = map (λ at. watch_kept at.0 at.1) (enumerate_from 0 (watches plan kept.part))

-- there are values for each watch-point of a participant, at the vertex that it follows
pub record HaveRows (plan : PlanParts) (part : ℕ) (vertices : List ℕ) (writes : List WriteKept) (inputs : List KeptInput) (now : ℕ) : Type 0 where
  pub participant : part < length plan.parts
  pub many : length vertices ≡ length (watches plan part)
  pub written : (number : ℕ) (watch : Watch) → slice_get (watches plan part) number ≡ Some watch
      → HaveWritten (write_entries plan part) writes watch.mesh (slice_index vertices number)
  pub readable : (number : ℕ) (watch : Watch) → slice_get (watches plan part) number ≡ Some watch
      → HaveInputs plan part inputs now watch.mesh (slice_index vertices number)
