-- What a grid stands for: a mesh and the cells that it is cut into. The project's own.
use Rattle.std.specs.Prelude.{◌≡◌, ℕ, ◌^◌, ◌<◌, ℤ, List, length}
use Rattle.mesh_data.specs.Meshes.{IsMesh}
use Rattle.grid_index.specs.Cells.{Cells, AreCellsOf}
use Rattle.grid_index.specs.Chains.{AreChainsOf}
use Rattle.grid_index.specs.Places.{places_in}

pub record GriddedMesh : Type 0 where
  pub mesh : List (List ℤ)
  pub cells : Cells

-- the cells are those of the mesh, which has a vertex
pub record IsGridded (dimensions : ℕ) (g : GriddedMesh) : Type 0 where
  pub mesh : IsMesh dimensions g.mesh
  pub some : 0 < length g.mesh
  pub cells : AreCellsOf dimensions g.mesh g.cells

-- what the parts of a grid are to the mesh and its cells
pub record IsGrid (dimensions : ℕ) (g : GriddedMesh) (ends before : List ℕ) : Type 0 where
  pub gridded : IsGridded dimensions g
  pub chains : AreChainsOf (places_in g.cells g.mesh) (g.cells.per_axis ^ dimensions) ends before
