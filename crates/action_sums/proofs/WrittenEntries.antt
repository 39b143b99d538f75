-- The entries that write the data of actions, and how many values they have.
use Rattle.std.proofs.Common.{◌≡◌, ◌≢◌, ℕ, ◌<◌, Bool, true, List, Option, Some, None, length, get_or, refl, ap, sym, ◌∙◌, inl, inr, arith}
use Rattle.std.specs.Prelude.{option_map, unsigned_abs, ◌*◌}
use Rattle.std.specs.List.{position_or_len}
use Rattle.std.specs.Option.{option_map_or}
use Rattle.std.specs.Str.{bytes_eq}
use Rattle.std.proofs.lemmas.Bool.{cases_lt}
use Rattle.std.proofs.lemmas.List.{get_or-map}
use Rattle.std.proofs.lemmas.List.Sums.{passes_at_first, fails_before_first}
use Rattle.cpl_config.specs.declared.config.Config.{Config}
use Rattle.cpl_config.specs.declared.config.DataTable.{DataTable}
use Rattle.cpl_config.specs.declared.config.PartTable.{PartTable}
use Rattle.cpl_config.specs.declared.config.DataEntry.{DataEntry}
use Rattle.case_files.specs.declared.case_file.CaseFile.{CaseFile}
use Rattle.mesh_rules.specs.Named.{data_called, dimensions_of}
use Rattle.mesh_rules.specs.ActionRules.{kind_called}
use Rattle.config_rules.specs.SchemeRules.{components_by, components}
use Rattle.config_laws.specs.FitMeshes.{IsWrittenOn}
use Rattle.config_laws.proofs.CyclesOf.{both_hold}
use Rattle.config_laws.proofs.Truths.{both, same_text, text_same}
use Rattle.case_rules.specs.CaseRules.{vertices_of, case_mesh_called, values_of}
use Rattle.action_sums.specs.ActionSums.{is_of, entry_of, written_lengths}

-- an entry of the data on the mesh
abbrev entry_on : (mesh data_name : List ℕ) → DataEntry
entry_on mesh data_name = record { data_name = data_name; mesh = mesh }

-- the entry with this number is of the data on the mesh
pub record IsEntry (entries : List DataEntry) (mesh data_name : List ℕ) (n : ℕ) : Type 0 where
  pub inside : n < length entries
  pub data_is : (d : DataEntry) → (get_or entries n d).data_name ≡ data_name
  pub mesh_is : (d : DataEntry) → (get_or entries n d).mesh ≡ mesh

-- what is written is found
pub entry_found : (part : PartTable) (mesh data_name : List ℕ) → IsWrittenOn part mesh data_name → IsEntry part.write mesh data_name (entry_of part.write mesh data_name)
entry_found part mesh data_name inside =
    let test : DataEntry → Bool = is_of mesh data_name in
    let entries = part.write in
    elim (cases_lt (position_or_len test entries) (length entries)) [
      | inl within ↦
          let parts = λ (d : DataEntry).
          both (bytes_eq (get_or entries (position_or_len test entries) d).data_name data_name) (bytes_eq (get_or entries (position_or_len test entries) d).mesh mesh) (passes_at_first test entries d within) in
          record {
            inside = within;
            data_is = λ d. same_text (get_or entries (position_or_len test entries) d).data_name data_name (parts d).0;
            mesh_is = λ d. same_text (get_or entries (position_or_len test entries) d).mesh mesh (parts d).1;
          }
      | inr past ↦
          let wanted : DataEntry = entry_on mesh data_name in
          let passes : test wanted ≡ true = both_hold (bytes_eq data_name data_name) (bytes_eq mesh mesh) (text_same data_name data_name refl) (text_same mesh mesh refl) in
          let fails = fails_before_first test entries inside.0 wanted (omega (arith, inside.1, past)) in
          let here : test (get_or entries inside.0 wanted) ≡ true = ap test inside.2 ∙ passes in
          absurd (cc (fails, here))
    ]

-- entries of other data are other entries
pub entries_apart : (entries : List DataEntry) (mesh other_mesh data_name other_name : List ℕ) (m n : ℕ) → IsEntry entries mesh data_name m → IsEntry entries other_mesh other_name n
    → data_name ≢ other_name → m ≢ n
entries_apart entries mesh other_mesh data_name other_name m n one other differ same =
    let d : DataEntry = entry_on mesh data_name in
    differ (sym (one.data_is d) ∙ ap (λ (k : ℕ). (get_or entries k d).data_name) same ∙ other.data_is d)

-- how many values it has
pub length_there : (config : Config) (part : PartTable) (case_file : CaseFile) (mesh data_name : List ℕ) (n : ℕ) → IsEntry part.write mesh data_name n
    → get_or (written_lengths config part case_file) n 0 ≡ values_of config case_file (entry_on mesh data_name)
length_there config part case_file mesh data_name n is =
    let d : DataEntry = entry_on mesh data_name in
    let entry : DataEntry = get_or part.write n d in
    let with_data : List ℕ → DataEntry = λ name. record { data_name = name; mesh = entry.mesh } in
    let with_mesh : List ℕ → DataEntry = λ name. record { data_name = data_name; mesh = name } in
    let same : entry ≡ d = ap with_data (is.data_is d) ∙ ap with_mesh (is.mesh_is d) in
    get_or-map (values_of config case_file) part.write n d 0 is.inside ∙ ap (values_of config case_file) same

by_kind : (dimensions : ℕ) (table : Option DataTable)
    → option_map_or (λ t. components_by t.kind dimensions) table 0 ≡ option_map_or (λ kind. components_by kind dimensions) (option_map (λ t. t.kind) table) 0
by_kind dimensions None = refl
by_kind dimensions (Some table) = refl

-- data of one kind have as many on a mesh
pub same_length : (config : Config) (case_file : CaseFile) (mesh one other : List ℕ) → kind_called config one ≡ kind_called config other
    → values_of config case_file (entry_on mesh one) ≡ values_of config case_file (entry_on mesh other)
same_length config case_file mesh one other same =
    let dimensions : ℕ = unsigned_abs (dimensions_of config mesh) in
    let vertices : ℕ = option_map_or vertices_of (case_mesh_called case_file mesh) 0 in
    let components_same : components config mesh one ≡ components config mesh other =
    by_kind dimensions (data_called config one)
    ∙ ap (λ kind. option_map_or (λ k. components_by k dimensions) kind 0) same
    ∙ sym (by_kind dimensions (data_called config other)) in
    ap (λ (n : ℕ). vertices * n) components_same
