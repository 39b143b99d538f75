-- What is kept of the entries that a participant writes, against its plan: as many values as their meshes have room for, and for each step what was written at its end. After the coupling documentation's write entries.
use Rattle.std.specs.Prelude.{◌≡◌, ℕ, ◌<◌, List, All, map, flat_map, length, Some, slice_index_or}
use Rattle.waveform.proofs.Places.{no_sample}
use Rattle.cpl_plan.specs.PlanWords.{components_on}
use Rattle.cpl_plan.specs.declared.parts.PlanParts.{PlanParts}
use Rattle.wave_coupling.specs.Noted.{Written}
use Rattle.wave_coupling.specs.Known.{Known, width_of, write_entries}
use Rattle.participant_tables.specs.WriteKept.{WriteKept, AreSamples}

-- one for each write entry of the plan, in order
pub record AreEntries (plan : PlanParts) (part : ℕ) (known : Known) (writes : List WriteKept) : Type 0 where
  pub widths : map (λ e. length e.values) writes ≡ map (width_of plan part known) (write_entries plan part)
  pub components : map (λ e. Some e.components) writes ≡ map (λ entry. components_on plan entry.data_id entry.mesh) (write_entries plan part)

-- each has a sample for each step of a turn, and what was written at a step's end is the samples of all of them
pub record AreWritten (plan : PlanParts) (part : ℕ) (known : Known) (written : List Written) (writes : List WriteKept) : Type 0 where
  pub entries : AreEntries plan part known writes
  pub shapes : All AreSamples writes
  pub times : All (λ e. map (λ s. s.time) e.samples ≡ map (λ one. one.time) written) writes
  pub values : (step : ℕ) (one : Written) → step < length written
      → (slice_index_or written step one).values ≡ flat_map (λ e. (slice_index_or e.samples step no_sample).field.values) writes
