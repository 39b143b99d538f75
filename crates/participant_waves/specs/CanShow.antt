-- What is kept of a participant at the end of a window, so that its watch-points can be read. From the coupling documentation's watch-points.
use Rattle.std.specs.Prelude.{◌≡◌, ℕ, ◌≤◌, ◌<◌, List, All, length}
use Rattle.cpl_plan.specs.declared.parts.PlanParts.{PlanParts}
use Rattle.wave_coupling.specs.InputWave.{InputWave}
use Rattle.wave_coupling.specs.Known.{Known, provided_by}
use Rattle.wave_coupling.specs.Posts.{received}
use Rattle.participant_tables.specs.ReadKept.{opening_reads}
use Rattle.participant_tables.specs.WriteKept.{WriteKept}
use Rattle.participant_tables.specs.declared.clock.Clock.{Clock}
use Rattle.participant_tables.specs.declared.read_table.ReadEntry.{ReadEntry}
use Rattle.participant_waves.specs.KnownMeshes.{AreMeshesOf}
use Rattle.participant_waves.specs.Readable.{HasRowsOf, IsReadable}
use Rattle.participant_waves.specs.WatchesStand.{AreWatches}
use Rattle.participant_waves.specs.Written.{AreEntries}
use Rattle.participant_waves.specs.declared.kept_input.KeptInput.{KeptInput}
use Rattle.participant_waves.specs.declared.watches.Watches.{Watches}

-- an input as it is kept, by its parts
abbrev pub input_kept : KeptInput → InputWave
input_kept input = record { source_window = input.source_window; source_iteration = input.source_iteration; wave = input.wave }

-- what is kept is of a participant and of the meshes that it knows; each entry that is written has a sample at the end of the last step, and each input can be read then, at the vertices of the meshes on which it is read
pub record CanShow (plan : PlanParts) (kept : Watches) (reads : List ReadEntry) (writes : List WriteKept) (inputs : List KeptInput) (clock : Clock) : Type 0 where
  pub part : ℕ
  pub known : Known
  pub participant : part < length plan.parts
  pub meshes : AreMeshesOf plan (provided_by plan part part) known.own
  pub followed : AreWatches plan part known kept
  pub entries : AreEntries plan part known writes
  pub stepped : All (λ e. 1 ≤ length e.samples) writes
  pub opened : reads ≡ opening_reads plan part
  pub taken : length inputs ≡ length (received plan part)
  pub spans : All (λ input. IsReadable clock.now clock.now input.wave) inputs
  pub rows : All (HasRowsOf known.own inputs) reads
