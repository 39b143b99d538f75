-- A participant's own meshes: they begin with no vertex, and vertices are added at the end of a mesh. From the coupling documentation's calls that set vertices.
use Rattle.std.specs.Prelude.{◌≡◌, ℕ, ◌+◌, ◌*◌, ◌/◌, ◌^◌, ◌≤◌, nat_eq, if◌then◌else◌, ℤ, List, [], ◌++◌, map, length, slice_get}
use Rattle.std.specs.Option.{option_map_or}
use Rattle.std.specs.Simd.{first_chunks}
use Rattle.mesh_data.specs.AnyMeshes.{dimensions_of, vertices_of}
use Rattle.mesh_data.specs.declared.any_mesh.AnyMesh.{AnyMesh}
use Rattle.mesh_data.specs.declared.any_mesh.AnyMesh.TheVariants.{Two, Three}
use Rattle.cpl_plan.specs.declared.parts.PlanParts.{PlanParts}
use Rattle.wave_coupling.specs.Known.{provided_by}

-- a mesh with no vertex, in two or in three dimensions
abbrev pub no_vertices : (dimensions : ℕ) → AnyMesh
no_vertices dimensions = if nat_eq dimensions 2 then Two [] else Three []

-- a mesh of the plan before its first vertex
abbrev pub opening_mesh : PlanParts → (mesh : ℕ) → AnyMesh
opening_mesh plan mesh = no_vertices (option_map_or (λ m. m.dimensions) (slice_get plan.meshes mesh) 0)

-- the meshes that a participant provides, before their first vertices
abbrev pub opening_meshes : PlanParts → (part : ℕ) → List AnyMesh
opening_meshes plan part = map (opening_mesh plan) (provided_by plan part part)

-- coordinates that stand one after another, as points of so many dimensions
abbrev pub points_in : (dimensions : ℕ) → List ℤ → List (List ℤ)
points_in dimensions coordinates = first_chunks dimensions (length coordinates / dimensions) coordinates

-- a mesh with more vertices at its end
abbrev pub with_vertices : (points : List (List ℤ)) → AnyMesh → AnyMesh
with_vertices points (Two mesh) = Two (mesh ++ points)
with_vertices points (Three mesh) = Three (mesh ++ points)

-- the same by the coordinates of the vertices
abbrev pub with_points : (coordinates : List ℤ) → AnyMesh → AnyMesh
with_points coordinates mesh = with_vertices (points_in (dimensions_of mesh) coordinates) mesh

-- coordinates that a mesh can take: whole points, and not too many
pub record TakesPoints (coordinates : List ℤ) (mesh : AnyMesh) : Type 0 where
  pub whole : length coordinates / dimensions_of mesh * dimensions_of mesh ≡ length coordinates
  pub room : length (vertices_of mesh) + length coordinates / dimensions_of mesh ≤ 10 ^ 4
