-- What a participant reads from: the inputs of its turn, mapped where the exchange has a read mapping, and which of them an entry reads. After the coupling documentation's read mappings.
use Rattle.std.specs.Prelude.{false, ℕ, List, map, find, zip, slice_get, Option, Some, None, Result, Ok, Err}
use Rattle.std.specs.Option.{option_map_or}
use Rattle.cpl_plan.specs.declared.parts.PlanParts.{PlanParts}
use Rattle.cpl_plan.specs.declared.parts.PlanEntry.{PlanEntry}
use Rattle.cpl_plan.specs.declared.parts.Exchange.{Exchange}
use Rattle.cpl_plan.specs.declared.words.Fault.{Fault}
use Rattle.cpl_plan.specs.declared.words.Fault.TheVariants.{ReadMap}
use Rattle.wave_coupling.specs.Posts.{Wave, received}
use Rattle.wave_coupling.specs.InputWave.{InputWave, no_input}
use Rattle.wave_coupling.specs.Mapped.{OutOfRange, mapped_wave, all_or_first}
use Rattle.wave_coupling.specs.Known.{Known, points_of, read_mesh, map_at, serves}

module _ (plan : PlanParts) (part : ℕ) where
  -- an input, mapped where its exchange has a read mapping
  abbrev pub with_wave : (w k x : ℕ) → InputWave → Result Wave OutOfRange → Result InputWave (Option Fault)
  with_wave w k x input (Ok wave) = Ok (record input { wave = wave })
  with_wave w k x input (Err at) = Err (Some (ReadMap part w k x at.time at.vertex at.component))

  abbrev pub read_wave : Known → (w k x : ℕ) → Option Exchange → InputWave → Result InputWave (Option Fault)
  read_wave known w k x None input = Ok input
  read_wave known w k x (Some e) input =
      with_wave w k x input (mapped_wave (map_at plan part e.read_map) (points_of plan part known e.mesh) (points_of plan part known (read_mesh plan part e)) input.wave)

  abbrev pub mapped_inputs : Known → (w k : ℕ) → List InputWave → Result (List InputWave) (Option Fault)
  mapped_inputs known w k waves =
      all_or_first (map (λ at. read_wave known w k at.0 (slice_get plan.exchanges at.0) at.1) (zip (received plan part) waves))

  -- the input of a read entry, among those of the exchanges that the participant receives
  abbrev pub input_for : List InputWave → PlanEntry → InputWave
  input_for inputs entry =
      option_map_or (λ at. at.1)
      (find (λ at. option_map_or (λ e. serves plan part e (read_mesh plan part e) entry) (slice_get plan.exchanges at.0) false) (zip (received plan part) inputs))
      no_input

  abbrev pub degree_of : PlanEntry → ℕ
  degree_of entry = option_map_or (λ d. d.degree) (slice_get plan.data_list entry.data_id) 0
