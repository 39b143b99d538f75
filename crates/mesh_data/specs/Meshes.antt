-- Meshes. The coupling documentation has a mesh as the list of its vertices' coordinates; the greatest number of vertices is the project's own.
use Rattle.std.specs.Prelude.{ℕ, ◌^◌, ◌<◌, ◌≤◌, ℤ, List, All, length}
use Rattle.fixed_num.specs.Numbers.{IsCoordinate}
use Rattle.mesh_data.specs.Points.{IsPoint}

-- a mesh is a list of at most 10,000 points; a vertex is its place in the list, from 0
pub record IsMesh (dimensions : ℕ) (mesh : List (List ℤ)) : Type 0 where
  pub few : length mesh ≤ 10 ^ 4
  pub points : All (IsPoint dimensions) mesh

-- a mesh takes one more vertex at these numbers: they are coordinates, and there is room
pub record TakesVertex (mesh : List (List ℤ)) (at : List ℤ) : Type 0 where
  pub in_range : All IsCoordinate at
  pub room : length mesh < 10 ^ 4
