-- The points of a case file's mesh: those that are listed, or those of its line. The project's own.
use Rattle.std.specs.Prelude.{ℕ, ◌≤◌, ◌^◌, List, [], IfSome, ℤ, unsigned_abs}
use Rattle.std.specs.Option.{option_map_or}
use Rattle.mesh_data.specs.Points.{IsPoint}
use Rattle.mesh_data.specs.Meshes.{IsMesh}
use Rattle.case_files.specs.declared.case_file.CaseMesh.{CaseMesh}
use Rattle.case_files.specs.declared.case_file.LinePoints.{LinePoints}
use Rattle.case_rigs.specs.Lines.{line_points}

abbrev pub points_of_line : LinePoints → List (List ℤ)
points_of_line line = line_points (unsigned_abs line.count) line.from line.to

-- the points of a mesh, in the order of its vertices
abbrev pub case_points : CaseMesh → List (List ℤ)
case_points mesh = option_map_or (λ points. points) mesh.points (option_map_or points_of_line mesh.line [])

-- a line between two points of so many dimensions, with at most 10,000 vertices
pub record IsLineIn (dimensions : ℕ) (line : LinePoints) : Type 0 where
  pub from : IsPoint dimensions line.from
  pub to : IsPoint dimensions line.to
  pub few : unsigned_abs line.count ≤ 10 ^ 4

-- what the file tells of a mesh is of so many dimensions
pub record IsCaseMeshIn (dimensions : ℕ) (mesh : CaseMesh) : Type 0 where
  pub listed : IfSome mesh.points (IsMesh dimensions)
  pub drawn : IfSome mesh.line (IsLineIn dimensions)
