-- What a participant's watch-points show at the end of a window: what was written last and what is read then, at the vertex nearest to the point. From the coupling documentation's watch-points.
use Rattle.std.specs.Prelude.{ℕ, ◌-◌, Bool, nat_eq, List, [], ◌++◌, map, flat_map, filter, length, slice_get, ℤ}
use Rattle.std.specs.List.{enumerate_from}
use Rattle.std.specs.Option.{option_map_or}
use Rattle.cpl_plan.specs.PlanWords.{numbers}
use Rattle.cpl_plan.specs.declared.parts.PlanParts.{PlanParts}
use Rattle.cpl_plan.specs.declared.parts.PlanEntry.{PlanEntry}
use Rattle.cpl_plan.specs.declared.parts.Watch.{Watch}
use Rattle.cpl_plan.specs.declared.words.WatchRow.{WatchRow}
use Rattle.mesh_data.specs.Nearest.{nearest_vertex}
use Rattle.waveform.specs.WaveValue.{read}
use Rattle.field_buffers.specs.Rows.{row_of}
use Rattle.wave_coupling.specs.Noted.{Written}
use Rattle.wave_coupling.specs.Known.{Known, points_of, read_entries, write_entries}
use Rattle.wave_coupling.specs.PostedWaves.{values_at}
use Rattle.wave_coupling.specs.MappedInputs.{input_for, degree_of}
use Rattle.participant_words.specs.Course.{Turn}
use Rattle.participant_words.specs.Entries.{components_in}

-- the rows by watch-point, and for each in the order in which they came
abbrev pub by_watch : (watches : List Watch) → List WatchRow → List WatchRow
by_watch watches rows = flat_map (λ number. filter (λ row. nat_eq row.watch number) rows) (numbers watches)

-- what was written at the last step
abbrev pub last_values : List Written → List ℤ
last_values written = option_map_or (λ last. last.values) (slice_get written (length written - 1)) []

module _ (plan : PlanParts) (part : ℕ) where
  abbrev pub watches : List Watch
  watches = option_map_or (λ p. p.watches) (slice_get plan.parts part) []

  abbrev pub is_watched : Watch → PlanEntry → Bool
  is_watched watch entry = nat_eq entry.mesh watch.mesh

  module _ (known : Known) (turn : Turn) where
    -- an entry's values at a vertex: what was written at the last step, or what is read now
    abbrev pub shown_written : (vertex : ℕ) → PlanEntry → List ℤ
    shown_written vertex entry =
        row_of (components_in plan part entry) vertex (values_at plan part known (write_entries plan part) entry (last_values turn.written))

    abbrev pub shown_read : (vertex : ℕ) → PlanEntry → List ℤ
    shown_read vertex entry =
        row_of (components_in plan part entry) vertex (read (input_for plan part turn.inputs entry).wave (degree_of plan part entry) turn.now)

    -- of the entries on the watched mesh, first those that are written and then those that are read
    abbrev pub shown_at : Watch → (vertex : ℕ) → List ℤ
    shown_at watch vertex =
        flat_map (shown_written vertex) (filter (is_watched watch) (write_entries plan part))
        ++ flat_map (shown_read vertex) (filter (is_watched watch) (read_entries plan part))

    abbrev pub watch_row : (number : ℕ) → Watch → WatchRow
    watch_row number watch = record {
      part = part;
      watch = number;
      window = turn.window;
      values = shown_at watch (nearest_vertex (points_of plan part known watch.mesh) watch.at);
    }

    -- a row for each watch-point
    abbrev pub watch_rows : List WatchRow
    watch_rows = map (λ at. watch_row at.0 at.1) (enumerate_from 0 watches)
