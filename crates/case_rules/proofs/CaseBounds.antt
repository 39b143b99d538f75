-- How many values a sound case has at most.
use Rattle.std.proofs.Common.{ℕ, ◌*◌, ◌≤◌, Bool, true, false, List, [], ◌∷◌, cond, find, length, ℤ, pos, negsuc, Option, Some, None, IfSome, All, arith, get_or}
use Rattle.std.specs.Prelude.{unsigned_abs, sum_by}
use Rattle.std.specs.Option.{option_map_or}
use Rattle.std.specs.Str.{bytes_eq}
use Rattle.std.proofs.lemmas.Bool.{and_parts, leb-true}
use Rattle.std.proofs.lemmas.Nat.{mul-le}
use Rattle.std.proofs.lemmas.List.Elements.{All-head, All-tail}
use Rattle.std.proofs.lemmas.List.Sums.{sum_by-le}
use Rattle.cpl_tables.specs.declared.shapes.Range.TheVariants.{Between}
use Rattle.cpl_config.specs.declared.kind_words.DataKind.{DataKind}
use Rattle.cpl_config.specs.declared.kind_words.DataKind.TheVariants.{Scalar, Vector}
use Rattle.cpl_config.specs.declared.config.Config.{Config}
use Rattle.cpl_config.specs.declared.config.DataTable.{DataTable}
use Rattle.cpl_config.specs.declared.config.MeshTable.{MeshTable}
use Rattle.cpl_config.specs.declared.config.DataEntry.{DataEntry}
use Rattle.cpl_config.specs.SoundConfig.{IsIn, IsSoundMesh, IsSoundConfig}
use Rattle.case_files.specs.declared.case_file.CaseFile.{CaseFile}
use Rattle.case_files.specs.declared.case_file.CaseMesh.{CaseMesh}
use Rattle.case_files.specs.declared.case_file.LinePoints.{LinePoints}
use Rattle.case_files.specs.SoundCase.{IsPointList, IsSoundLine, IsSoundCaseMesh, IsSoundCaseFile}
use Rattle.mesh_rules.specs.Named.{data_called, mesh_called, dimensions_of}
use Rattle.config_rules.specs.SchemeRules.{components_by, components}
use Rattle.case_rules.specs.CaseRules.{vertices_of, case_mesh_called, values_of}

-- what is found in a list has what each of its items has
pub found_has : {X : Type 0} (P : X → Type 0) (test : X → Bool) (xs : List X) → All P xs → IfSome (find test xs) P
found_has P test [] each = tt
found_has P test (x ∷ xs) each =
    elim (test x) as (λ b. IfSome (cond b (Some x) (find test xs)) P) [
      | true ↦ All-head P x xs each
      | false ↦ found_has P test xs (All-tail P x xs each)
    ]

within_most : (least most : ℕ) (z : ℤ) → IsIn (Between least most) z → unsigned_abs z ≤ most
within_most least most (pos n) within = leb-true n most (and_parts _ _ within).1
within_most least most (negsuc n) within = cc

few_points : (points : Option (List (List ℤ))) (line : Option LinePoints) → IfSome points IsPointList → IfSome line IsSoundLine
    → option_map_or (λ ps. length ps) points (option_map_or (λ l. unsigned_abs l.count) line 0) ≤ 10000
few_points (Some points) line h k = h.few
few_points None (Some line) h k = within_most 1 10000 line.count k.count
few_points None None h k = omega arith

pub mesh_few : (mesh : CaseMesh) → IsSoundCaseMesh mesh → vertices_of mesh ≤ 10000
mesh_few mesh sound = few_points mesh.points mesh.line sound.points sound.line

few_there : (mesh : Option CaseMesh) → IfSome mesh IsSoundCaseMesh → option_map_or vertices_of mesh 0 ≤ 10000
few_there None h = omega arith
few_there (Some mesh) h = mesh_few mesh h

pub vertices_few : (case_file : CaseFile) (name : List ℕ) → IsSoundCaseFile case_file → option_map_or vertices_of (case_mesh_called case_file name) 0 ≤ 10000
vertices_few case_file name sound =
    few_there (case_mesh_called case_file name) (found_has IsSoundCaseMesh (λ mesh. bytes_eq mesh.name name) case_file.mesh sound.meshes)

dimensions_there : (mesh : Option MeshTable) → IfSome mesh IsSoundMesh → unsigned_abs (option_map_or (λ table. table.dimensions) mesh (pos 0)) ≤ 3
dimensions_there None h = omega arith
dimensions_there (Some mesh) h = within_most 2 3 mesh.dimensions h.dimensions

components_by_few : (kind : DataKind) (dimensions : ℕ) → dimensions ≤ 3 → components_by kind dimensions ≤ 3
components_by_few Scalar dimensions few = omega arith
components_by_few Vector dimensions few = few

components_there : (table : Option DataTable) (dimensions : ℕ) → dimensions ≤ 3 → option_map_or (λ t. components_by t.kind dimensions) table 0 ≤ 3
components_there None dimensions few = omega arith
components_there (Some table) dimensions few = components_by_few table.kind dimensions few

pub components_few : (config : Config) (mesh data_name : List ℕ) → IsSoundConfig config → components config mesh data_name ≤ 3
components_few config mesh data_name sound =
    components_there (data_called config data_name) (unsigned_abs (dimensions_of config mesh))
    (dimensions_there (mesh_called config mesh) (found_has IsSoundMesh (λ table. bytes_eq table.name mesh) config.mesh sound.meshes))

pub product_few : (a b : ℕ) → a ≤ 10000 → b ≤ 3 → a * b ≤ 30000
product_few a b few small = mul-le a b 10000 3 few small

pub values_few : (config : Config) (case_file : CaseFile) (entry : DataEntry) → IsSoundConfig config → IsSoundCaseFile case_file → values_of config case_file entry ≤ 30000
values_few config case_file entry sound sound_case =
    product_few _ _ (vertices_few case_file entry.mesh sound_case) (components_few config entry.mesh entry.data_name sound)

pub sum_few : (config : Config) (case_file : CaseFile) (entries : List DataEntry) → IsSoundConfig config → IsSoundCaseFile case_file → length entries ≤ 64
    → sum_by (values_of config case_file) entries ≤ 1920000
sum_few config case_file entries sound sound_case few =
    let each : sum_by (values_of config case_file) entries ≤ length entries * 30000 = sum_by-le (values_of config case_file) 30000 entries (λ k d within. values_few config case_file (get_or entries k d) sound sound_case) in
    omega (arith, each)
