-- Why a mesh refuses a vertex. The project's own.
use Rattle.std.specs.Prelude.{◌≡◌, ◌^◌, ℤ, List, All, length}
use Rattle.fixed_num.specs.Numbers.{IsCoordinate}
use Rattle.mesh_data.specs.Meshes.{TakesVertex}
use Rattle.mesh_data.specs.declared.mesh.MeshErr.{MeshErr}
use Rattle.mesh_data.specs.declared.mesh.MeshErr.TheVariants.{BadPoint, TooMany, Memory}

-- a bad point has a number that is no coordinate; a mesh is full where all are, and it has 10,000 vertices; only a vertex that the mesh could take wants for memory
abbrev pub IsCauseOf : List (List ℤ) → List ℤ → MeshErr → Type 0
IsCauseOf mesh at BadPoint = ¬ All IsCoordinate at
IsCauseOf mesh at TooMany = All IsCoordinate at × (length mesh ≡ 10 ^ 4)
IsCauseOf mesh at Memory = TakesVertex mesh at
