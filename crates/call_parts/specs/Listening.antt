-- What a participant knows when its event is answered: its meshes, and its turn. The project's own.
use Rattle.std.specs.Prelude.{◌≡◌, ℕ, ◌≤◌, List}
use Rattle.cpl_plan.specs.declared.parts.PlanParts.{PlanParts}
use Rattle.mesh_data.specs.declared.any_mesh.AnyMesh.{AnyMesh}
use Rattle.participant_words.specs.Course.{Course}
use Rattle.participant_tables.specs.declared.clock.Clock.{Clock}
use Rattle.participant_waves.specs.KnownMeshes.{HasMeshes}

-- a participant has come there
pub record IsAt (own received : List AnyMesh) (clock : Clock) (c : Course) : Type 0 where
  pub own_same : c.own ≡ own
  pub received_same : c.received ≡ received
  pub window : c.turn.window ≡ clock.window
  pub iteration : c.turn.iteration ≡ clock.iteration
  pub start : c.turn.start ≡ clock.start

-- it may take the inputs of a window
pub record CanTakeInputs (plan : PlanParts) (part : ℕ) (own received : List AnyMesh) (clock : Clock) : Type 0 where
  pub meshes : HasMeshes plan part own received
  pub window : 1 ≤ clock.window
  pub there : clock.window ≤ plan.most_windows
  pub started : clock.start ≤ plan.end_time
