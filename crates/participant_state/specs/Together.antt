-- How what is kept of a participant belongs together. The project's own.
use Rattle.std.specs.Prelude.{◌≡◌, ℕ, ◌<◌, ◌≤◌, List, [], All, map, length, slice_get, Option, Some, IfSome, option_map}
use Rattle.mesh_data.specs.AnyMeshes.{dimensions_of, vertices_of}
use Rattle.mesh_data.specs.declared.any_mesh.AnyMesh.{AnyMesh}
use Rattle.cpl_plan.specs.declared.parts.PlanParts.{PlanParts}
use Rattle.wave_coupling.specs.Known.{provided_by}
use Rattle.wave_coupling.specs.Coupling.{makes_windows}
use Rattle.participant_words.specs.KnownByReply.{known_by}
use Rattle.participant_tables.specs.Named.{Called, called_in}
use Rattle.participant_tables.specs.ReadKept.{opening_reads}
use Rattle.participant_tables.specs.WriteKept.{WriteKept}
use Rattle.participant_tables.specs.WriteSteps.{opening_writes, HaveVertices}
use Rattle.participant_tables.specs.declared.clock.Clock.{Clock}
use Rattle.participant_tables.specs.declared.read_table.ReadEntry.{ReadEntry}
use Rattle.participant_waves.specs.KnownMeshes.{HasMeshes}
use Rattle.participant_waves.specs.PassagesStand.{ArePassages}
use Rattle.participant_waves.specs.Readable.{IsReadable, HasRowsOf}
use Rattle.participant_waves.specs.declared.kept_input.KeptInput.{KeptInput}
use Rattle.participant_waves.specs.declared.passages.Passages.{Passages}

-- an entry without what is written of it
abbrev pub shape_of : WriteKept → WriteKept
shape_of entry = record entry { values = []; samples = [] }

-- the dimensions of a mesh of the plan
abbrev pub dimensions_in : PlanParts → (mesh : ℕ) → Option ℕ
dimensions_in plan mesh = option_map (λ m. m.dimensions) (slice_get plan.meshes mesh)

-- the names and the entries are the plan's, and there is a mesh for each that is provided
pub record IsOfPlan (plan : PlanParts) (part : ℕ) (names : Called) (own : List AnyMesh) (writes : List WriteKept) (reads : List ReadEntry) : Type 0 where
  pub participant : part < length plan.parts
  pub named : names ≡ called_in plan part
  pub meshes : length own ≡ length (provided_by plan part part)
  pub dimensions : map (λ mesh. Some (dimensions_of mesh)) own ≡ map (dimensions_in plan) (provided_by plan part part)
  pub written : map shape_of writes ≡ opening_writes plan part
  pub read : reads ≡ opening_reads plan part

-- each entry has values for the vertices of its mesh, and a sample at the end of each step
pub record AreFilled (own : List AnyMesh) (writes : List WriteKept) (times : List ℕ) : Type 0 where
  pub values : (place : ℕ) (mesh : AnyMesh) → slice_get own place ≡ Some mesh → HaveVertices place (length (vertices_of mesh)) writes
  pub samples : All (λ e. map (λ s. s.time) e.samples ≡ times) writes
  pub few : length times ≤ 1024

-- the clock is that of the turn, whose steps have ended at these times
pub record IsInTime (plan : PlanParts) (part : ℕ) (clock : Clock) (times : List ℕ) : Type 0 where
  pub one_step : clock.one_step ≡ makes_windows plan part
  pub steps : clock.steps ≡ length times
  pub past : All (λ time. time ≤ clock.now) times
  pub started : clock.start ≤ clock.now
  pub within : clock.now ≤ clock.latest
  pub ended : clock.latest ≤ plan.end_time

-- the inputs can be read from now until the window's end, at the vertices of the meshes on which they are read
pub record AreRead (own : List AnyMesh) (reads : List ReadEntry) (clock : Clock) (inputs : List KeptInput) : Type 0 where
  pub spans : All (λ input. IsReadable clock.now clock.latest input.wave) inputs
  pub rows : All (HasRowsOf own inputs) reads

-- the mappings are between the meshes that the participant provides and has received
pub record AreJoined (plan : PlanParts) (part : ℕ) (own received : List AnyMesh) (passages : Option Passages) : Type 0 where
  pub meshes : IfSome passages (λ _. HasMeshes plan part own received)
  pub stand : IfSome passages (ArePassages plan part (known_by plan part own received))
