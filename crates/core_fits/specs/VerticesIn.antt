-- How many vertices a mesh has, as its owner has posted it; 0 before. The project's own, after the coupling documentation's provided meshes.
use Rattle.std.specs.Prelude.{ℕ, [], length}
use Rattle.std.specs.Option.{option_map_or}
use Rattle.mesh_data.specs.AnyMeshes.{vertices_of}
use Rattle.cpl_plan.specs.declared.parts.PlanParts.{PlanParts}
use Rattle.core_sides.specs.CoreWords.{WaveState}
use Rattle.core_sides.specs.PostedMeshes.{mesh_posted}

abbrev pub vertices_in : PlanParts → WaveState → (mesh : ℕ) → ℕ
vertices_in plan sides mesh = length (option_map_or vertices_of (mesh_posted plan sides mesh) [])
