-- A coupling of waves in which each participant knows the meshes of its exchanges, of so many vertices.
use Rattle.std.proofs.Common.{ℕ, ◌<◌, Bool, IsTrue, List, length}
use Rattle.mesh_data.specs.declared.any_mesh.AnyMesh.{AnyMesh}
use Rattle.cpl_plan.specs.ValidPlan.{IsValidPlan}
use Rattle.cpl_plan.specs.declared.parts.PlanParts.{PlanParts}
use Rattle.solver_trait.specs.Behaviour.{Behaviour}
use Rattle.wave_values.specs.Fits.{KnowsMeshes}
use Rattle.wave_values.specs.Trait.{FitsEntries, MeetsTrait}
use Rattle.wave_readings.specs.Setting.{IsSetting, known_of, vertices_at}
use Rattle.wave_readings.proofs.Meshes.{meshes_known}

pub record IsKnowing {State : Type 0} (plan : PlanParts) (vertices : ℕ → ℕ) (meshes : ℕ → List AnyMesh) (solvers : ℕ → Behaviour State) (states : ℕ → State) (sound : ℕ → State → Bool) : Type 0 where
  pub valid : IsValidPlan plan
  pub meets : (part : ℕ) → part < length plan.parts → MeetsTrait (sound part) (solvers part)
  pub fits : (part : ℕ) → part < length plan.parts → FitsEntries plan part (known_of plan meshes part) (solvers part)
  pub knows : (part : ℕ) → part < length plan.parts → KnowsMeshes plan vertices part (known_of plan meshes part)
  pub starts : (part : ℕ) → part < length plan.parts → IsTrue (sound part (states part))

-- so it is where each provides its meshes
pub setting_knows : {State : Type 0} (plan : PlanParts) (meshes : ℕ → List AnyMesh) (solvers : ℕ → Behaviour State) (states : ℕ → State) (sound : ℕ → State → Bool)
    → IsSetting plan meshes solvers states sound → IsKnowing plan (vertices_at plan meshes) meshes solvers states sound
setting_knows plan meshes solvers states sound setting = record {
  valid = setting.valid;
  meets = setting.meets;
  fits = setting.fits;
  knows = meshes_known plan setting.valid meshes setting.provides;
  starts = setting.starts;
}
