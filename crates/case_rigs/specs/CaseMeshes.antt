-- The meshes of a participant by its case file. From the coupling documentation's provided meshes; the case file is the project's own.
use Rattle.std.specs.Prelude.{ℕ, ◌≤◌, ◌==◌, if◌then◌else◌, List, [], map, IfSome, ℤ, unsigned_abs}
use Rattle.std.specs.Option.{option_map_or}
use Rattle.cpl_config.specs.declared.config.Config.{Config}
use Rattle.cpl_config.specs.declared.config.PartTable.{PartTable}
use Rattle.case_files.specs.declared.case_file.CaseFile.{CaseFile}
use Rattle.mesh_rules.specs.Named.{dimensions_of}
use Rattle.mesh_data.specs.declared.any_mesh.AnyMesh.{AnyMesh}
use Rattle.mesh_data.specs.declared.any_mesh.AnyMesh.TheVariants.{Two, Three}
use Rattle.case_rules.specs.CaseRules.{case_mesh_called}
use Rattle.case_rigs.specs.CasePoints.{case_points, IsCaseMeshIn}

-- the mesh of these points
abbrev pub mesh_with : (dimensions : ℕ) → List (List ℤ) → AnyMesh
mesh_with dimensions points = if dimensions == 2 then Two points else Three points

-- how many dimensions the mesh of a name has
abbrev pub own_dimensions : Config → (name : List ℕ) → ℕ
own_dimensions config name = unsigned_abs (dimensions_of config name)

-- its points by a case file; none where the file has no such mesh
abbrev pub own_points : CaseFile → (name : List ℕ) → List (List ℤ)
own_points case_file name = option_map_or case_points (case_mesh_called case_file name) []

abbrev pub own_mesh : Config → CaseFile → (name : List ℕ) → AnyMesh
own_mesh config case_file name = mesh_with (own_dimensions config name) (own_points case_file name)

-- the meshes that a participant provides, in its order
abbrev pub own_meshes : Config → PartTable → CaseFile → List AnyMesh
own_meshes config part case_file = map (own_mesh config case_file) part.provides

-- points of two or of three dimensions
abbrev pub IsFlatOrSolid : (dimensions : ℕ) → Type 0
IsFlatOrSolid dimensions = (2 ≤ dimensions) × (dimensions ≤ 3)

-- the mesh of a name can be made
pub record MakesMesh (config : Config) (case_file : CaseFile) (name : List ℕ) : Type 0 where
  pub dimensions : IsFlatOrSolid (own_dimensions config name)
  pub told : IfSome (case_mesh_called case_file name) (IsCaseMeshIn (own_dimensions config name))
