-- Case files that suit their participants, in words. The project's own, after what the coupling documentation asks of participants and their meshes.
use Rattle.std.specs.Prelude.{◌≡◌, ◌⊎◌, ℕ, ◌*◌, ◌≤◌, List, length, Some, None, All, Contains, ℤ, unsigned_abs}
use Rattle.std.specs.List.{AllZip, Any}
use Rattle.std.specs.Option.{IsSomeAnd}
use Rattle.cpl_config.specs.declared.kind_words.WindowWord.TheVariants.{FirstParticipant}
use Rattle.cpl_config.specs.declared.config.Config.{Config}
use Rattle.cpl_config.specs.declared.config.SchemeTable.{SchemeTable}
use Rattle.cpl_config.specs.declared.config.PartTable.{PartTable}
use Rattle.line_solvers.specs.CaseSound.{IsSoundCase}
use Rattle.case_files.specs.declared.case_file.CaseFile.{CaseFile}
use Rattle.case_files.specs.declared.case_file.CaseMesh.{CaseMesh}
use Rattle.case_files.specs.declared.case_file.LinePoints.{LinePoints}
use Rattle.mesh_rules.specs.Named.{dimensions_of}
use Rattle.mesh_rules.specs.OneTable.{IsOnly}
use Rattle.case_rules.specs.CaseRules.{case_mesh_called, vertices_of}
use Rattle.case_rules.specs.SolverCase.{solver_case}

-- the vertices are listed alone: some, with a coordinate for each dimension
pub record ListsVertices (dimensions : ℕ) (mesh : CaseMesh) : Type 0 where
  pub points : List (List ℤ)
  pub listed : mesh.points ≡ Some points
  pub alone : mesh.line ≡ None
  pub some : 1 ≤ length points
  pub coordinates : All (λ point. length point ≡ dimensions) points

-- the vertices stand on a line alone: some, between ends with a coordinate for each dimension
pub record LinesVertices (dimensions : ℕ) (mesh : CaseMesh) : Type 0 where
  pub line : LinePoints
  pub drawn : mesh.line ≡ Some line
  pub alone : mesh.points ≡ None
  pub some : 1 ≤ unsigned_abs line.count
  pub from : length line.from ≡ dimensions
  pub to : length line.to ≡ dimensions

-- its vertices are told in one of the two ways
abbrev pub TellsVertices : (dimensions : ℕ) → CaseMesh → Type 0
TellsVertices dimensions mesh = ListsVertices dimensions mesh ⊎ LinesVertices dimensions mesh

-- the case mesh has the name, and no other one of the file has it
abbrev pub IsOnlyCaseMesh : CaseFile → (name : List ℕ) → CaseMesh → Type 0
IsOnlyCaseMesh case_file name mesh = IsOnly (λ (other : CaseMesh). other.name) case_file.mesh name mesh

-- there is one case mesh for each mesh that the participant provides, and no further one; its vertices have as many coordinates as the configuration's mesh has dimensions
pub record HasItsMeshes (config : Config) (part : PartTable) (case_file : CaseFile) : Type 0 where
  pub provided : All (λ (mesh : CaseMesh). Contains part.provides mesh.name) case_file.mesh
  pub one_each : All (λ name. IsSomeAnd (case_mesh_called case_file name) (IsOnlyCaseMesh case_file name)) part.provides
  pub vertices : All (λ (mesh : CaseMesh). TellsVertices (unsigned_abs (dimensions_of config mesh.name)) mesh) case_file.mesh

-- each step of the participant makes a window: the method says so, and it is the first of a scheme
abbrev pub MakesWindows : Config → PartTable → Type 0
MakesWindows config part = (config.window_method ≡ FirstParticipant) × Any (λ (scheme : SchemeTable). scheme.first ≡ Some part.name) config.scheme

-- all that the rules ask of a participant's case: its meshes; a solver that can be made, which reads and writes as many values as the participant; and, unless it makes the windows, 1,024 steps that reach the end of one
pub record SuitsParticipant (config : Config) (part : PartTable) (case_file : CaseFile) : Type 0 where
  pub meshes : HasItsMeshes config part case_file
  pub solver : IsSoundCase (solver_case config part case_file)
  pub steps : ¬ MakesWindows config part → unsigned_abs config.window ≤ 1024 * unsigned_abs case_file.step

-- each participant has its case
abbrev pub SuitParticipants : Config → List CaseFile → Type 0
SuitParticipants config cases = AllZip (SuitsParticipant config) config.participant cases

-- a mesh has 1 to 10,000 vertices
pub record HasFewVertices (mesh : CaseMesh) : Type 0 where
  pub some : 1 ≤ vertices_of mesh
  pub few : vertices_of mesh ≤ 10000

-- each mesh of each case has
abbrev pub HaveFewVertices : List CaseFile → Type 0
HaveFewVertices cases = All (λ (case_file : CaseFile). All HasFewVertices case_file.mesh) cases
