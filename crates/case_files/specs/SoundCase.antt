-- A case file whose names, numbers and lists are within their ranges and limits, and whose meshes have names of their own. The project's own.
use Rattle.std.specs.Prelude.{◌≡◌, ◌≤◌, ◌^◌, List, length, map, All, IfSome, IsSome, IsNone, IsTrue, ℤ}
use Rattle.cpl_tables.specs.Values.{are_distinct_texts}
use Rattle.cpl_tables.specs.declared.shapes.Range.TheVariants.{Within, Between}
use Rattle.cpl_config.specs.SoundConfig.{IsName, IsIn}
use Rattle.line_solvers.specs.declared.case.RowParts.{RowParts}
use Rattle.line_solvers.specs.declared.case.RecordEntry.{RecordEntry}
use Rattle.line_solvers.specs.declared.case.SolverKind.TheVariants.{Rows, Recorded}
use Rattle.case_files.specs.declared.case_file.CaseFile.{CaseFile}
use Rattle.case_files.specs.declared.case_file.CaseMesh.{CaseMesh}
use Rattle.case_files.specs.declared.case_file.LinePoints.{LinePoints}

-- a Value, a coefficient, a coordinate, in units
abbrev pub IsValueUnits : ℤ → Type 0
IsValueUnits z = IsIn (Within (10 ^ 13)) z

abbrev pub IsCoefficient : ℤ → Type 0
IsCoefficient z = IsIn (Within (10 ^ 9)) z

abbrev pub IsCoordinateUnits : ℤ → Type 0
IsCoordinateUnits z = IsIn (Within (10 ^ 12)) z

-- a state is not empty, and not too long
pub record IsStateList (state : List ℤ) : Type 0 where
  pub some_value : 1 ≤ length state
  pub not_long : length state ≤ 60000
  pub values : All IsValueUnits state

pub record IsSoundRow (row : RowParts) : Type 0 where
  pub add : IsValueUnits row.add
  pub few_states : length row.states ≤ 64
  pub states : All (λ pair. IsCoefficient pair.number) row.states
  pub few_reads : length row.reads ≤ 64
  pub reads : All (λ pair. IsCoefficient pair.number) row.reads

pub record IsSoundRecord (entry : RecordEntry) : Type 0 where
  pub dt : IsIn (Between 1 (10 ^ 9)) entry.dt
  pub writes : All IsValueUnits entry.writes

pub record IsRecordList (records : List RecordEntry) : Type 0 where
  pub few : length records ≤ 10000
  pub each : All IsSoundRecord records

pub record IsPointList (points : List (List ℤ)) : Type 0 where
  pub few : length points ≤ 10000
  pub coordinates : All (All IsCoordinateUnits) points

pub record IsSoundLine (line : LinePoints) : Type 0 where
  pub from : All IsCoordinateUnits line.from
  pub to : All IsCoordinateUnits line.to
  pub count : IsIn (Between 1 10000) line.count

pub record IsSoundCaseMesh (mesh : CaseMesh) : Type 0 where
  pub name : IsName mesh.name
  pub points : IfSome mesh.points IsPointList
  pub line : IfSome mesh.line IsSoundLine

pub record IsSoundCaseFile (case_file : CaseFile) : Type 0 where
  pub step : IsIn (Between 1 (10 ^ 9)) case_file.step
  pub state : IfSome case_file.state IsStateList
  pub fill : IfSome case_file.fill IsValueUnits
  pub count : IfSome case_file.count (IsIn (Between 1 60000))
  pub forbid : IfSome case_file.forbid (IsIn (Between 1 (10 ^ 13)))
  pub meshes : All IsSoundCaseMesh case_file.mesh
  pub mesh_once : IsTrue (are_distinct_texts (map (λ mesh. mesh.name) case_file.mesh))
  pub has_rows : case_file.solver ≡ Rows → IsSome case_file.row
  pub rows : IfSome case_file.row (All IsSoundRow)
  pub has_records : case_file.solver ≡ Recorded → IsSome case_file.records
  pub records : IfSome case_file.records IsRecordList
  pub no_out : case_file.solver ≡ Recorded → IsNone case_file.out
  pub alpha : IsCoefficient case_file.alpha
  pub beta : IsCoefficient case_file.beta
  pub stiff : IsCoefficient case_file.stiff
  pub damp : IsCoefficient case_file.damp
  pub gain : IsCoefficient case_file.gain
  pub rate : IsCoefficient case_file.rate
