-- What a schedule of a coupling of waves leaves, in the words of what the loop leaves. The project's own.
use Rattle.std.specs.Prelude.{ℕ, List}
use Rattle.cpl_plan.specs.declared.parts.PlanParts.{PlanParts}
use Rattle.cpl_plan.specs.declared.words.Fault.{Fault}
use Rattle.mesh_data.specs.declared.any_mesh.AnyMesh.{AnyMesh}
use Rattle.solver_trait.specs.Behaviour.{Behaviour}
use Rattle.coupled_loop.specs.CoupledLoop.{Part, Parts, coupled}
use Rattle.coupled_loop.specs.Schedules.{Actor, Actors, Entry, IsSchedule}
use Rattle.wave_coupling.specs.Posts.{Post}
use Rattle.wave_coupling.specs.Noted.{Reading, Note}
use Rattle.wave_coupling.specs.Solve.{Run}
use Rattle.wave_coupling.specs.Coupling.{wave_frame, wave_solvers}
use Rattle.wave_coupling.specs.LoopResults.{Results, readings_in, results_of}

-- participants of a coupling of waves, within their solves
abbrev pub WaveActors : Type 0 → Type 0
WaveActors State = Actors (List AnyMesh) Post Fault State (Run State) Note

-- a participant as a schedule leaves it
abbrev pub part_left : {State : Type 0} → Actor (List AnyMesh) Post Fault State (Run State) Note → Part (List AnyMesh) Post Fault State Note
part_left actor = record { held = actor.held; given = actor.side.given; stopped = actor.side.ending }

abbrev pub parts_left : {State : Type 0} → WaveActors State → Parts (List AnyMesh) Post Fault State Note
parts_left actors part = part_left (actors part)

-- what a participant has read so far
abbrev pub readings_left : {State : Type 0} → PlanParts → (meshes : ℕ → List AnyMesh) → WaveActors State → (part : ℕ) → List Reading
readings_left plan meshes actors part = readings_in plan meshes (parts_left actors) part

-- all results, as they stand
abbrev pub results_left : {State : Type 0} → PlanParts → (meshes : ℕ → List AnyMesh) → WaveActors State → Results State
results_left plan meshes actors = results_of plan meshes (parts_left actors)

module _ {State : Type 0} (plan : PlanParts) (meshes : ℕ → List AnyMesh) (solvers : ℕ → Behaviour State) (states : ℕ → State) where
  -- what the loop leaves
  abbrev pub wave_loop : Parts (List AnyMesh) Post Fault State Note
  wave_loop = coupled (wave_frame plan) (wave_solvers plan meshes solvers states)

  -- a schedule of participants with such meshes and solvers, from such states, and where it leads
  abbrev pub IsWaveSchedule : List Entry → WaveActors State → Type 0
  IsWaveSchedule schedule actors = IsSchedule (wave_frame plan) (wave_solvers plan meshes solvers states) schedule actors
