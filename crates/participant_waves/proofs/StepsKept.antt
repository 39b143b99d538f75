-- What is kept of the entries that are written, at their places and at each step.
use Rattle.std.proofs.Common.{◌≡◌, ℕ, ◌<◌, nat_eq, List, length, map, get_or, slice_get, position, ◌&&◌, Option, Some, IfSome, Contains, ap, sym, ◌∙◌, arith}
use Rattle.std.specs.Prelude.{option_map}
use Rattle.std.proofs.lemmas.Bool.{and_parts, eqb-true}
use Rattle.std.proofs.lemmas.List.{length-map}
use Rattle.std.proofs.lemmas.List.Elements.{All-contains}
use Rattle.std.proofs.lemmas.List.Quantifiers.{position-Some}
use Rattle.std.proofs.lemmas.Option.{same_Some, slice_get-map, slice_get-get_or}
use Rattle.waveform.specs.declared.sample.Sample.{Sample}
use Rattle.waveform.proofs.Places.{no_sample}
use Rattle.cpl_plan.specs.PlanWords.{components_on}
use Rattle.cpl_plan.specs.declared.parts.PlanParts.{PlanParts}
use Rattle.cpl_plan.specs.declared.parts.PlanEntry.{PlanEntry}
use Rattle.wave_coupling.specs.Noted.{Written}
use Rattle.wave_coupling.specs.Known.{Known, width_of, write_entries}
use Rattle.wave_laws.proofs.Stills.{map_same}
use Rattle.participant_tables.specs.WriteKept.{WriteKept, AreSamples}
use Rattle.participant_waves.specs.RowsKept.{HasWritten, HaveWritten}
use Rattle.participant_waves.specs.Written.{AreEntries, AreWritten}
use Rattle.participant_waves.proofs.ValuesFound.{same_entry}

-- what holds of the entries of a mesh holds of the one that is found
pub written_there : (entries : List PlanEntry) (writes : List WriteKept) (entry : PlanEntry) (place vertex : ℕ) → HaveWritten entries writes entry.mesh vertex
    → position (λ (one : PlanEntry). nat_eq one.data_id entry.data_id && nat_eq one.mesh entry.mesh) entries ≡ Some place → IfSome (slice_get writes place) (HasWritten vertex)
written_there entries writes entry place vertex have is =
    let found = position-Some (same_entry entry) entries place entry is in
    let at : PlanEntry = get_or entries place entry in
    let both = and_parts (nat_eq at.data_id entry.data_id) (nat_eq at.mesh entry.mesh) found.1 in
    have.1 place at (slice_get-get_or entries place entry found.0) (eqb-true at.mesh entry.mesh both.1)

module _ (plan : PlanParts) (part : ℕ) (known : Known) (writes : List WriteKept) (entries : AreEntries plan part known writes) where
  pub many : length writes ≡ length (write_entries plan part)
  many =
      let one = length-map writes (λ (e : WriteKept). Some e.components) in
      let other = length-map (write_entries plan part) (λ (entry : PlanEntry). components_on plan entry.data_id entry.mesh) in
      sym one ∙ ap length entries.components ∙ other

  module _ (place : ℕ) (entry : PlanEntry) (e : WriteKept) (at : slice_get (write_entries plan part) place ≡ Some entry) (kept : slice_get writes place ≡ Some e) where
    pub components_at : components_on plan entry.data_id entry.mesh ≡ Some e.components
    components_at =
        let of_plan : PlanEntry → Option ℕ = λ entry. components_on plan entry.data_id entry.mesh in
        let of_kept : WriteKept → Option ℕ = λ e. Some e.components in
        same_Some (of_plan entry) (of_kept e)
        (sym (ap (option_map of_plan) at) ∙ sym (slice_get-map of_plan (write_entries plan part) place) ∙ ap (λ (os : List (Option ℕ)). slice_get os place) (sym entries.components)
        ∙ slice_get-map of_kept writes place ∙ ap (option_map of_kept) kept)

    pub width_at : length e.values ≡ width_of plan part known entry
    width_at =
        let of_kept : WriteKept → ℕ = λ e. length e.values in
        same_Some (of_kept e) (width_of plan part known entry)
        (sym (ap (option_map of_kept) kept) ∙ sym (slice_get-map of_kept writes place) ∙ ap (λ (ns : List ℕ). slice_get ns place) entries.widths
        ∙ slice_get-map (width_of plan part known) (write_entries plan part) place ∙ ap (option_map (width_of plan part known)) at)

module _ (plan : PlanParts) (part : ℕ) (known : Known) (writes : List WriteKept) (written : List Written) (turn : AreWritten plan part known written writes) where
  pub steps_kept : (e : WriteKept) → Contains writes e → length e.samples ≡ length written
  steps_kept e inside =
      let times = All-contains (λ (e : WriteKept). map (λ one. one.time) e.samples ≡ map (λ one. one.time) written) writes e turn.times inside in
      sym (length-map e.samples (λ (one : Sample). one.time)) ∙ ap length times ∙ length-map written (λ (one : Written). one.time)

  pub widths_kept : (step : ℕ) → step < length written
      → map (λ (e : WriteKept). length (get_or e.samples step no_sample).field.values) writes ≡ map (width_of plan part known) (write_entries plan part)
  widths_kept step within =
      map_same (λ (e : WriteKept). length (get_or e.samples step no_sample).field.values) (λ (e : WriteKept). length e.values) writes
      (λ e inside.
      let alike = (All-contains AreSamples writes e turn.shapes inside).alike step no_sample (omega (arith, steps_kept e inside, within)) in
      alike.len)
      ∙ turn.entries.widths
