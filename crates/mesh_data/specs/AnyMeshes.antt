-- What a mesh of two or of three dimensions shows. The project's own.
use Rattle.std.specs.Prelude.{ℕ, ℤ, List}
use Rattle.mesh_data.specs.declared.any_mesh.AnyMesh.{AnyMesh}
use Rattle.mesh_data.specs.declared.any_mesh.AnyMesh.TheVariants.{Two, Three}

-- how many dimensions it has
abbrev pub dimensions_of : AnyMesh → ℕ
dimensions_of (Two _) = 2
dimensions_of (Three _) = 3

-- its points, each the list of its coordinates
abbrev pub vertices_of : AnyMesh → List (List ℤ)
vertices_of (Two mesh) = mesh
vertices_of (Three mesh) = mesh
