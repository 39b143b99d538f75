-- What is kept in tables, in the words of a participant's calls.
use Rattle.std.proofs.Common.{◌≡◌, ℕ, ◌+◌, Bool, ◌&&◌, nat_eq, List, [], ◌∷◌, ◌++◌, map, length, slice_get, Some, ℤ, refl, ap, sym, ◌∙◌}
use Rattle.std.specs.Prelude.{flat_map, position}
use Rattle.std.specs.List.{enumerate_from}
use Rattle.std.specs.Option.{option_map_or}
use Rattle.std.proofs.lemmas.Option.{slice_get-map}
use Rattle.std.proofs.lemmas.List.{length-map}
use Rattle.std.proofs.lemmas.List.FromFn.{length-enumerate_from}
use Rattle.waveform.specs.declared.sample.Sample.{Sample}
use Rattle.cpl_plan.specs.declared.parts.PlanParts.{PlanParts}
use Rattle.wave_coupling.specs.Noted.{Written}
use Rattle.wave_coupling.specs.Known.{read_entries, write_entries}
use Rattle.field_buffers.specs.Rows.{with_rows}
use Rattle.participant_tables.specs.AtPlace.{at_place}
use Rattle.participant_tables.specs.ReadKept.{opening_read, opening_reads, read_at}
use Rattle.participant_tables.specs.WriteKept.{WriteKept}
use Rattle.participant_tables.specs.WriteSteps.{opening_write, opening_writes, written_at, written}
use Rattle.participant_tables.specs.declared.read_table.ReadEntry.{ReadEntry}
use Rattle.participant_words.specs.Named.{entry_read, entry_written, is_entry}
use Rattle.participant_words.specs.Entries.{components_written, written_buffers}
use Rattle.participant_state.specs.Kept.{buffers_of, values_at_step, written_at_step, written_in}
use Rattle.participant_state.specs.Together.{shape_of}
use Rattle.participant_state.proofs.ListPlaces.{position_mapped, same_map, map_or_map, map_at_place, map_untouched}

-- as many things were written as there were steps
pub steps_written : (w k : ℕ) (times : List ℕ) (writes : List WriteKept) → length (written_in w k times writes) ≡ length times
steps_written w k times writes =
    length-map (enumerate_from 0 times) (λ at. written_at_step w k writes at.0 at.1) ∙ length-enumerate_from 0 times

-- what was written is told by the samples alone
abbrev samples_of : List WriteKept → List (List Sample)
samples_of writes = map (λ e. e.samples) writes

abbrev sample_values : (step : ℕ) → List Sample → List ℤ
sample_values step samples = option_map_or (λ s. s.field.values) (slice_get samples step) []

values_told : (writes : List WriteKept) (step : ℕ) → values_at_step writes step ≡ flat_map (sample_values step) (samples_of writes)
values_told [] step = refl
values_told (e ∷ writes) step = ap (λ values. sample_values step e.samples ++ values) (values_told writes step)

pub same_written : (w k : ℕ) (times : List ℕ) (one other : List WriteKept) → samples_of one ≡ samples_of other
    → written_in w k times one ≡ written_in w k times other
same_written w k times one other same =
    same_map (λ at. written_at_step w k one at.0 at.1) (λ at. written_at_step w k other at.0 at.1)
    (λ at. ap (λ (values : List ℤ). let it : Written = record { window = w; iteration = k; step = at.0 + 1; time = at.1; values = values } in it)
    (values_told one at.0 ∙ ap (flat_map (sample_values at.0)) same ∙ sym (values_told other at.0)))
    (enumerate_from 0 times)

module _ (plan : PlanParts) (part : ℕ) where
  -- the entries that calls name are found where they are kept
  pub written_found : (writes : List WriteKept) → map shape_of writes ≡ opening_writes plan part → (place data_id : ℕ)
      → written_at place data_id writes ≡ entry_written plan part place data_id
  written_found writes are place data_id =
      let test : WriteKept → Bool = λ e. nat_eq e.mesh place && nat_eq e.data_id data_id in
      sym (position_mapped test test shape_of writes (λ e. refl)) ∙ ap (position test) are
      ∙ position_mapped test (is_entry plan part place data_id) (opening_write plan part) (write_entries plan part) (λ e. refl)

  pub read_found : (place data_id : ℕ) → read_at place data_id (opening_reads plan part) ≡ entry_read plan part place data_id
  read_found place data_id =
      let test : ReadEntry → Bool = λ e. nat_eq e.mesh place && nat_eq e.data_id data_id in
      position_mapped test (is_entry plan part place data_id) (opening_read plan part) (read_entries plan part) (λ e. refl)

  pub components_kept : (writes : List WriteKept) → map shape_of writes ≡ opening_writes plan part → (i : ℕ) (e : WriteKept)
      → slice_get writes i ≡ Some e → e.components ≡ components_written plan part i
  components_kept writes are i e at =
      let count : WriteKept → ℕ = λ x. x.components in
      let seen : option_map_or count (slice_get (map shape_of writes) i) 0 ≡ e.components = rw (slice_get-map shape_of writes i) (rw at refl) in
      let told : option_map_or count (slice_get (opening_writes plan part) i) 0 ≡ components_written plan part i =
      rw (slice_get-map (opening_write plan part) (write_entries plan part) i) (map_or_map count (opening_write plan part) 0 (slice_get (write_entries plan part) i)) in
      sym seen ∙ ap (λ (xs : List WriteKept). option_map_or count (slice_get xs i) 0) are ∙ told

  -- rows are written in one buffer, and nothing else is touched
  pub rows_written : (writes : List WriteKept) → map shape_of writes ≡ opening_writes plan part → (i : ℕ) (vertices : List ℕ) (rows : List ℤ)
      → buffers_of (at_place (written vertices rows) i writes) ≡ written_buffers plan part i vertices rows (buffers_of writes)
  rows_written writes are i vertices rows =
      map_at_place (λ e. e.values) (written vertices rows) (with_rows (components_written plan part i) vertices rows) writes i
      (λ e at. ap (λ (n : ℕ). with_rows n vertices rows e.values) (components_kept writes are i e at))

pub samples_untouched : (writes : List WriteKept) (i : ℕ) (vertices : List ℕ) (rows : List ℤ)
    → samples_of (at_place (written vertices rows) i writes) ≡ samples_of writes
samples_untouched writes i vertices rows = map_untouched (λ e. e.samples) (written vertices rows) writes i (λ e. refl)

pub shapes_untouched : (writes : List WriteKept) (i : ℕ) (vertices : List ℕ) (rows : List ℤ)
    → map shape_of (at_place (written vertices rows) i writes) ≡ map shape_of writes
shapes_untouched writes i vertices rows = map_untouched shape_of (written vertices rows) writes i (λ e. refl)
