-- From cases that break no rule to what holds of each, and back.
use Rattle.std.proofs.Common.{◌≡◌, ℕ, ◌+◌, true, not, List, [], ◌∷◌, length, get_or, All, ap, arith}
use Rattle.std.specs.Prelude.{IsFalse}
use Rattle.std.specs.List.{list_all, AllZip}
use Rattle.std.proofs.lemmas.Bool.{and_parts, not-false}
use Rattle.std.proofs.lemmas.List.Elements.{All-nil, All-cons, All-head, All-tail}
use Rattle.cpl_config.specs.declared.config.Config.{Config}
use Rattle.cpl_config.specs.declared.config.PartTable.{PartTable}
use Rattle.case_files.specs.declared.case_file.CaseFile.{CaseFile}
use Rattle.case_files.specs.declared.case_file.CaseMesh.{CaseMesh}
use Rattle.case_files.specs.SoundCase.{IsSoundCaseFile, IsSoundCaseMesh}
use Rattle.case_rules.specs.declared.rules.CaseRule.{CaseRule}
use Rattle.case_rules.specs.declared.rules.CaseRule.TheVariants.{Unsuited, TooManySteps}
use Rattle.case_rules.specs.CaseRules.{CaseEntry, case_at, case_entries_from, case_entries, has_own_meshes, has_right_points, suits_meshes, suits_values, written_values, read_values, is_suited, breaks_alone, AreAccepted}
use Rattle.case_rules.specs.SuitedCases.{SuitsParticipant, SuitParticipants, HasFewVertices, HaveFewVertices}
use Rattle.case_rules.proofs.Passing.{both, each_passes, each_unbroken, unbroken_each}
use Rattle.case_rules.proofs.CaseBounds.{mesh_few}
use Rattle.case_rules.proofs.StepCounts.{steps_suffice, steps_needed}
use Rattle.case_rules.proofs.SolverCases.{sound_case}
use Rattle.case_rules.proofs.SuitedMeshes.{its_meshes, right_meshes, some_vertex}
use Rattle.case_rules.proofs.SuitedSolvers.{right_values}

-- Participants and their cases, in pairs and as entries

from_entries : (P : PartTable → CaseFile → Type 0) (index : ℕ) (parts : List PartTable) (cases : List CaseFile) → length cases ≡ length parts
    → All (λ (entry : CaseEntry). P entry.part entry.case_file) (case_entries_from index parts cases) → AllZip P parts cases
from_entries P index [] [] one_each all = tt
from_entries P index [] (case_file ∷ cases) one_each all = absurd (omega (arith, one_each))
from_entries P index (part ∷ parts) [] one_each all = absurd (omega (arith, one_each))
from_entries P index (part ∷ parts) (case_file ∷ cases) one_each all =
    let Holds : CaseEntry → Type 0 = λ entry. P entry.part entry.case_file in
    let rest = case_entries_from (index + 1) parts cases in
    (All-head Holds (case_at index part case_file) rest all, from_entries P (index + 1) parts cases (omega (arith, one_each)) (All-tail Holds (case_at index part case_file) rest all))

to_entries : (P : PartTable → CaseFile → Type 0) (index : ℕ) (parts : List PartTable) (cases : List CaseFile) → AllZip P parts cases → All (λ (entry : CaseEntry). P entry.part entry.case_file) (case_entries_from index parts cases)
to_entries P index [] cases all = All-nil (λ (entry : CaseEntry). P entry.part entry.case_file)
to_entries P index (part ∷ parts) [] all = absurd all
to_entries P index (part ∷ parts) (case_file ∷ cases) all =
    All-cons (λ (entry : CaseEntry). P entry.part entry.case_file) (case_at index part case_file) (case_entries_from (index + 1) parts cases) all.0 (to_entries P (index + 1) parts cases all.1)

of_cases : (P : CaseFile → Type 0) (parts : List PartTable) (cases : List CaseFile) → AllZip (λ _ case_file. P case_file) parts cases → All P cases
of_cases P parts [] all = All-nil P
of_cases P [] (case_file ∷ cases) all = absurd all
of_cases P (part ∷ parts) (case_file ∷ cases) all = All-cons P case_file cases all.0 (of_cases P parts cases all.1)

sound_entries : (index : ℕ) (parts : List PartTable) (cases : List CaseFile) → All IsSoundCaseFile cases → All (λ (entry : CaseEntry). IsSoundCaseFile entry.case_file) (case_entries_from index parts cases)
sound_entries index [] cases sound = All-nil (λ (entry : CaseEntry). IsSoundCaseFile entry.case_file)
sound_entries index (part ∷ parts) [] sound = All-nil (λ (entry : CaseEntry). IsSoundCaseFile entry.case_file)
sound_entries index (part ∷ parts) (case_file ∷ cases) sound =
    All-cons (λ (entry : CaseEntry). IsSoundCaseFile entry.case_file) (case_at index part case_file) (case_entries_from (index + 1) parts cases) (All-head IsSoundCaseFile case_file cases sound)
    (sound_entries (index + 1) parts cases (All-tail IsSoundCaseFile case_file cases sound))

abbrev BreaksNone : Config → CaseEntry → Type 0
BreaksNone config entry = (rule : CaseRule) → IsFalse (breaks_alone config rule entry)

-- what holds of a sound case that breaks no rule holds of each
each : (P : PartTable → CaseFile → Type 0) (config : Config) → ((entry : CaseEntry) → IsSoundCaseFile entry.case_file → BreaksNone config entry → P entry.part entry.case_file)
    → (cases : List CaseFile) → length cases ≡ length config.participant → All IsSoundCaseFile cases → AreAccepted config cases → AllZip P config.participant cases
each P config holds cases one_each sound accepted =
    let entries = case_entries config cases in
    from_entries P 0 config.participant cases one_each
    (λ k d within. holds (get_or entries k d) (sound_entries 0 config.participant cases sound k d within)
    (λ rule. each_unbroken (breaks_alone config rule) entries (accepted rule) k d within))

suited : (config : Config) (entry : CaseEntry) → BreaksNone config entry
    → (suits_meshes config entry.part entry.case_file ≡ true) × (suits_values (written_values config entry.part entry.case_file) (read_values config entry.part entry.case_file) entry.case_file ≡ true)
suited config entry kept = and_parts _ _ (not-false (is_suited config entry.part entry.case_file) (kept Unsuited))

it_suits : (config : Config) (entry : CaseEntry) → IsSoundCaseFile entry.case_file → BreaksNone config entry → SuitsParticipant config entry.part entry.case_file
it_suits config entry sound kept =
    let tests = suited config entry kept in
    record {
      meshes = its_meshes config entry.part entry.case_file sound tests.0;
      solver = sound_case config entry.part entry.case_file sound tests.1;
      steps = steps_suffice config entry.part entry.case_file sound (kept TooManySteps);
    }

-- cases that break no rule suit their participants
pub accepted_suited : (config : Config) (cases : List CaseFile) → length cases ≡ length config.participant → All IsSoundCaseFile cases → AreAccepted config cases → SuitParticipants config cases
accepted_suited config = each (SuitsParticipant config) config (it_suits config)

counted : (config : Config) (mesh : CaseMesh) → IsSoundCaseMesh mesh → has_right_points config mesh ≡ true → HasFewVertices mesh
counted config mesh sound right = record { some = some_vertex config mesh right; few = mesh_few mesh sound }

all_counted : (config : Config) (meshes : List CaseMesh) → All IsSoundCaseMesh meshes → list_all (has_right_points config) meshes ≡ true → All HasFewVertices meshes
all_counted config meshes sound right = λ k d within.
    counted config (get_or meshes k d) (sound k d within)
    (each_passes (has_right_points config) (λ (mesh : CaseMesh). has_right_points config mesh ≡ true) (λ mesh h. h) meshes right k d within)

-- and their meshes have some vertices, and few
pub few_vertices : (config : Config) (cases : List CaseFile) → length cases ≡ length config.participant → All IsSoundCaseFile cases → AreAccepted config cases → HaveFewVertices cases
few_vertices config cases one_each sound accepted =
    of_cases (λ (case_file : CaseFile). All HasFewVertices case_file.mesh) config.participant cases
    (each (λ _ (case_file : CaseFile). All HasFewVertices case_file.mesh) config
    (λ entry sound kept. all_counted config entry.case_file.mesh sound.meshes (and_parts (has_own_meshes entry.part entry.case_file) _ (suited config entry kept).0).1) cases one_each sound accepted)

fits : (config : Config) (rule : CaseRule) (entry : CaseEntry) → SuitsParticipant config entry.part entry.case_file → IsFalse (breaks_alone config rule entry)
fits config Unsuited entry fit =
    ap not (both (suits_meshes config entry.part entry.case_file) _ (right_meshes config entry.part entry.case_file fit.meshes) (right_values config entry.part entry.case_file fit.solver))
fits config TooManySteps entry fit = steps_needed config entry.part entry.case_file fit.solver.a_tick fit.steps

-- and back: cases that suit their participants break no rule
pub suited_accepted : (config : Config) (cases : List CaseFile) → SuitParticipants config cases → AreAccepted config cases
suited_accepted config cases fit = λ rule.
    let entries = case_entries config cases in
    unbroken_each (breaks_alone config rule) entries (λ k d within. fits config rule (get_or entries k d) (to_entries (SuitsParticipant config) 0 config.participant cases fit k d within))
