-- The rules over the case files of an accepted configuration. The project's own.
use Rattle.std.specs.Prelude.{◌≡◌, ℕ, ◌+◌, ◌-◌, ◌*◌, ◌/◌, ◌%◌, ◌^◌, Bool, true, false, not, ◌&&◌, ◌||◌, ◌==◌, nat_lt, nat_le, if◌then◌else◌, List, [], ◌∷◌, length, sum_by, find, slice_index_or, ℤ, pos, unsigned_abs, Option, Some, None, is_some, is_none, option_map, unwrap_or}
use Rattle.std.specs.List.{list_all, list_any}
use Rattle.std.specs.Option.{option_map_or}
use Rattle.std.specs.Bool.{beq}
use Rattle.std.specs.Str.{bytes_eq}
use Rattle.cpl_tables.specs.declared.places.Place.{Place}
use Rattle.cpl_tables.specs.declared.places.Place.TheVariants.{Case}
use Rattle.cpl_tables.specs.Places.{number_at}
use Rattle.cpl_rules.specs.declared.rules.Refusal.{Refusal}
use Rattle.cpl_rules.specs.FirstBroken.{first_broken, IsFirstBroken, IsUnbroken}
use Rattle.cpl_config.specs.declared.kind_words.WindowWord.{WindowWord}
use Rattle.cpl_config.specs.declared.kind_words.WindowWord.TheVariants.{Fixed, FirstParticipant}
use Rattle.cpl_config.specs.declared.config.Config.{Config}
use Rattle.cpl_config.specs.declared.config.PartTable.{PartTable}
use Rattle.cpl_config.specs.declared.config.DataEntry.{DataEntry}
use Rattle.cpl_config.specs.SoundConfig.{IsSoundParticipant}
use Rattle.line_solvers.specs.declared.case.RowParts.{RowParts}
use Rattle.line_solvers.specs.declared.case.SolverKind.{SolverKind}
use Rattle.line_solvers.specs.declared.case.SolverKind.TheVariants.{Rows, Rod, Spring, Recorded}
use Rattle.case_files.specs.declared.case_file.CaseFile.{CaseFile}
use Rattle.case_files.specs.declared.case_file.CaseMesh.{CaseMesh}
use Rattle.case_files.specs.SoundCase.{IsSoundCaseFile}
use Rattle.mesh_rules.specs.Named.{is_among, dimensions_of}
use Rattle.case_rules.specs.declared.rules.CaseRule.{CaseRule}
use Rattle.case_rules.specs.declared.rules.CaseRule.TheVariants.{Unsuited, TooManySteps}
use Rattle.case_rules.specs.declared.case_check.CaseSpot.{CaseSpot}
use Rattle.config_rules.specs.SchemeRules.{components}

-- the case of a participant
pub record CaseEntry : Type 0 where
  pub place : Place
  pub part : PartTable
  pub case_file : CaseFile

-- what is read of a configuration and a case file that were not refused
pub record IsSoundEntry (entry : CaseEntry) : Type 0 where
  pub part : IsSoundParticipant entry.part
  pub case_file : IsSoundCaseFile entry.case_file

-- what a case of the code stands for
abbrev pub entry_of_case : CaseSpot → CaseEntry
entry_of_case spot = record { place = spot.place; part = spot.part.now; case_file = spot.case_file.now }

-- the case of the participant with this number, from 0
abbrev pub case_at : ℕ → PartTable → CaseFile → CaseEntry
case_at index part case_file = record { place = Case (number_at index); part = part; case_file = case_file }

-- the cases in the order of their participants
abbrev pub case_entries_from : ℕ → List PartTable → List CaseFile → List CaseEntry
case_entries_from index (part ∷ parts) (case_file ∷ case_files) =
    case_at index part case_file ∷ case_entries_from (index + 1) parts case_files
case_entries_from index _ _ = []

abbrev pub case_entries : Config → List CaseFile → List CaseEntry
case_entries config case_files = case_entries_from 0 config.participant case_files

-- Meshes

-- how many vertices a mesh has
abbrev pub vertices_of : CaseMesh → ℕ
vertices_of mesh = option_map_or (λ points. length points) mesh.points (option_map_or (λ line. unsigned_abs line.count) mesh.line 0)

abbrev pub case_mesh_called : CaseFile → List ℕ → Option CaseMesh
case_mesh_called case_file name = find (λ mesh. bytes_eq mesh.name name) case_file.mesh

-- the meshes are those that the participant provides, each once
abbrev pub has_own_meshes : PartTable → CaseFile → Bool
has_own_meshes part case_file =
    list_all (λ mesh. is_among mesh.name part.provides) case_file.mesh
    && list_all (λ name. is_some (case_mesh_called case_file name)) part.provides

-- either points or a line, at least one vertex, and as many coordinates as the mesh has dimensions
abbrev pub has_points : (dimensions : ℕ) → CaseMesh → Bool
has_points dimensions mesh =
    (not (beq (is_some mesh.points) (is_some mesh.line)) && nat_lt 0 (vertices_of mesh))
    && (option_map_or (list_all (λ point. length point == dimensions)) mesh.points true
    && option_map_or (λ line. (length line.from == dimensions) && (length line.to == dimensions)) mesh.line true)

-- the same, of the configuration's mesh of its name
abbrev pub has_right_points : Config → CaseMesh → Bool
has_right_points config mesh = has_points (unsigned_abs (dimensions_of config mesh.name)) mesh

-- the meshes of a case suit its participant
abbrev pub suits_meshes : Config → PartTable → CaseFile → Bool
suits_meshes config part case_file = has_own_meshes part case_file && list_all (has_right_points config) case_file.mesh

-- Values

-- how many values an entry stands for: for each vertex its components
abbrev pub values_of : Config → CaseFile → DataEntry → ℕ
values_of config case_file entry =
    option_map_or vertices_of (case_mesh_called case_file entry.mesh) 0
    * components config entry.mesh entry.data_name

abbrev pub written_values : Config → PartTable → CaseFile → ℕ
written_values config part case_file = sum_by (values_of config case_file) part.write

abbrev pub read_values : Config → PartTable → CaseFile → ℕ
read_values config part case_file = sum_by (values_of config case_file) part.read

-- The solver

-- the state is listed, or else it is filled, and not both
abbrev pub has_state : CaseFile → Bool
has_state case_file =
    if is_some case_file.state then is_none case_file.fill && is_none case_file.count else is_some case_file.fill && is_some case_file.count

-- how many components it has
abbrev pub state_length : CaseFile → ℕ
state_length case_file =
    option_map_or (λ state. length state) case_file.state (option_map_or unsigned_abs case_file.count 0)

-- an index, from 0, below a number
abbrev pub is_index : ℕ → ℤ → Bool
is_index count (pos index) = nat_lt index count
is_index count _ = false

-- as many components of the state are written as there are values; the first ones, where none are listed
abbrev pub has_right_out : (size written : ℕ) → Option (List ℤ) → Bool
has_right_out size written (Some out) = (length out == written) && list_all (is_index size) out
has_right_out size written None = not (nat_lt size written)

abbrev pub has_right_row : (size inputs : ℕ) → RowParts → Bool
has_right_row size inputs row =
    list_all (λ pair. is_index size pair.index) row.states && list_all (λ pair. is_index inputs pair.index) row.reads

-- the number is none, or this one
abbrev pub is_none_or : (wanted count : ℕ) → Bool
is_none_or wanted count = (count == 0) || (count == wanted)

-- component 0 of the state: of the list, or what all are filled with
abbrev pub first_component : CaseFile → ℤ
first_component case_file = option_map_or (λ state. slice_index_or state 0 (pos 0)) case_file.state (unwrap_or case_file.fill (pos 0))

-- a whole number, in units, from 0 to this one
abbrev pub is_whole_to : (most : ℕ) → ℤ → Bool
is_whole_to most (pos units) = (units % 10 ^ 6 == 0) && nat_le (units / 10 ^ 6) most
is_whole_to most _ = false

-- the state counts the records that are used, and has a component more for each written value, as each record has one
abbrev pub suits_records : (size written : ℕ) → CaseFile → Bool
suits_records size written case_file =
    (size == 1 + written)
    && (is_whole_to (length (unwrap_or case_file.records [])) (first_component case_file)
    && list_all (λ entry. length entry.writes == written) (unwrap_or case_file.records []))

-- what the kind of solver asks of its state of so many components, of what is written and of its inputs: a row for each component; one input for each or none; a spring has as many velocities as positions, and one input for each of these or none; records as above
abbrev pub suits_solver : SolverKind → (size written inputs : ℕ) → CaseFile → Bool
suits_solver Rows size written inputs case_file =
    (length (unwrap_or case_file.row []) == size) && list_all (has_right_row size inputs) (unwrap_or case_file.row [])
suits_solver Rod size written inputs case_file = is_none_or size inputs
suits_solver Spring size written inputs case_file = (size % 2 == 0) && is_none_or (size / 2) inputs
suits_solver Recorded size written inputs case_file = suits_records size written case_file

-- the state is told in one way, and what is written and read suits it and the solver
abbrev pub suits_values : (written inputs : ℕ) → CaseFile → Bool
suits_values written inputs case_file =
    has_state case_file
    && (has_right_out (state_length case_file) written case_file.out && suits_solver case_file.solver (state_length case_file) written inputs case_file)

-- the case suits its participant
abbrev pub is_suited : Config → PartTable → CaseFile → Bool
is_suited config part case_file =
    suits_meshes config part case_file && suits_values (written_values config part case_file) (read_values config part case_file) case_file

abbrev pub is_unsuited : Config → PartTable → CaseFile → Bool
is_unsuited config part case_file = not (is_suited config part case_file)

-- how many steps of a length are needed for a window: their quotient, rounded up
abbrev pub steps_in : (window step : ℕ) → ℕ
steps_in window step = (window + (step - 1)) / step

-- the participant is the first of a scheme
abbrev pub is_a_first : Config → PartTable → Bool
is_a_first config part = list_any (λ scheme. option_map_or (bytes_eq part.name) scheme.first false) config.scheme

-- whether each step of the participant makes a window
abbrev pub makes_windows : WindowWord → Config → PartTable → Bool
makes_windows Fixed config part = false
makes_windows FirstParticipant config part = is_a_first config part

-- a window that others make takes more than 1,024 steps
abbrev pub takes_too_many_steps : Config → PartTable → CaseFile → Bool
takes_too_many_steps config part case_file =
    not (makes_windows config.window_method config part) && nat_lt 1024 (steps_in (unsigned_abs config.window) (unsigned_abs case_file.step))

-- the case breaks the rule
abbrev pub breaks_alone : Config → CaseRule → CaseEntry → Bool
breaks_alone config Unsuited entry = is_unsuited config entry.part entry.case_file
breaks_alone config TooManySteps entry = takes_too_many_steps config entry.part entry.case_file

-- whatever stands before it
abbrev pub breaks_case : Config → CaseRule → List CaseEntry → CaseEntry → Bool
breaks_case config rule before entry = breaks_alone config rule entry

-- the rules, in their order
abbrev pub case_rules : List CaseRule
case_rules = Unsuited ∷ TooManySteps ∷ []

-- the number by which a refusal names a rule
abbrev pub number_of_case_rule : CaseRule → ℕ
number_of_case_rule Unsuited = 31
number_of_case_rule TooManySteps = 32

-- a broken rule and the case that breaks it, as they are told
abbrev pub refused_for_case : CaseRule × CaseEntry → Refusal
refused_for_case found = record { rule = number_of_case_rule found.0; place = found.1.place }

-- the first broken rule of the cases, at its first place
abbrev pub case_refusal : Config → List CaseFile → Option Refusal
case_refusal config case_files = option_map refused_for_case (first_broken (breaks_case config) case_rules (case_entries config case_files))

-- the refusal tells the first broken rule of the cases, and its first place
pub record IsCaseRefused (config : Config) (case_files : List CaseFile) (refusal : Refusal) : Type 0 where
  pub rule : CaseRule
  pub at : CaseEntry
  pub told : refusal ≡ refused_for_case (rule, at)
  pub first : IsFirstBroken (breaks_case config) case_rules (case_entries config case_files) rule at

-- no case breaks a rule
abbrev pub AreAccepted : Config → List CaseFile → Type 0
AreAccepted config case_files = (rule : CaseRule) → IsUnbroken (breaks_case config rule) (case_entries config case_files)
