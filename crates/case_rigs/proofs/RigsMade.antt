-- A rig can be made of each case of an accepted configuration.
use Rattle.std.proofs.Common.{◌≡◌, List, [], ◌∷◌, length, map, get_or, min, All, ap, arith}
use Rattle.std.specs.List.{AllZip, zip}
use Rattle.std.proofs.lemmas.List.{length-map}
use Rattle.std.proofs.lemmas.List.Elements.{All-head, All-tail}
use Rattle.std.proofs.lemmas.Slice.Zip.{length-zip}
use Rattle.cpl_config.specs.declared.config.Config.{Config}
use Rattle.cpl_config.specs.declared.config.PartTable.{PartTable}
use Rattle.cpl_config.specs.SoundConfig.{IsSoundConfig, IsSoundParticipant}
use Rattle.case_files.specs.declared.case_file.CaseFile.{CaseFile}
use Rattle.case_files.specs.SoundCase.{IsSoundCaseFile}
use Rattle.config_rules.specs.ConfigRules.{IsAccepted}
use Rattle.config_laws.specs.FitMeshes.{IsFitParticipant}
use Rattle.config_laws.proofs.WholeFacts.{participants}
use Rattle.case_rules.specs.CaseRules.{written_values, AreAccepted}
use Rattle.case_rules.specs.SuitedCases.{SuitsParticipant}
use Rattle.case_rules.proofs.AcceptedCases.{accepted_suited}
use Rattle.data_actions.specs.SoundSums.{AreSums}
use Rattle.action_sums.proofs.FitSums.{fit_sums}
use Rattle.case_rigs.specs.declared.rigs.CaseRig.{CaseRig}
use Rattle.case_rigs.specs.CaseRigs.{RigParts, parts_of, own_sums, own_rig_of, case_rigs, MakesRig}
use Rattle.case_rigs.proofs.ToldMeshes.{makes_mesh}

-- what is known of a participant by the configuration alone
record IsFit (config : Config) (part : PartTable) : Type 0 where
  sound : IsSoundParticipant part
  fit : IsFitParticipant config part
  sums : (case_file : CaseFile) → AreSums (written_values config part case_file) (own_sums config part case_file)

-- a case that suits a participant, and that makes a rig
pub record IsRigged (config : Config) (part : PartTable) (case_file : CaseFile) : Type 0 where
  pub suits : SuitsParticipant config part case_file
  pub makes : MakesRig config part case_file

rigged : (config : Config) (part : PartTable) (case_file : CaseFile) → IsSoundConfig config → SuitsParticipant config part case_file → IsFit config part → IsSoundCaseFile case_file → IsRigged config part case_file
rigged config part case_file sound suits fit sound_case = record {
  suits = suits;
  makes = record {
    part_sound = fit.sound;
    case_sound = sound_case;
    meshes = λ k d within. makes_mesh config case_file (get_or part.provides k d) sound (fit.fit.provided_declared k d within) sound_case suits.meshes.vertices;
    solver = suits.solver;
    sums = fit.sums case_file;
  };
}

all_rigged : (config : Config) (parts : List PartTable) (cases : List CaseFile) → IsSoundConfig config → AllZip (SuitsParticipant config) parts cases → All (IsFit config) parts → All IsSoundCaseFile cases
    → AllZip (IsRigged config) parts cases
all_rigged config [] [] sound suits fit sound_cases = tt
all_rigged config [] (case_file ∷ cases) sound suits fit sound_cases = absurd suits
all_rigged config (part ∷ parts) [] sound suits fit sound_cases = absurd suits
all_rigged config (part ∷ parts) (case_file ∷ cases) sound suits fit sound_cases = (
  rigged config part case_file sound suits.0 (All-head (IsFit config) part parts fit) (All-head IsSoundCaseFile case_file cases sound_cases),
  all_rigged config parts cases sound suits.1 (All-tail (IsFit config) part parts fit) (All-tail IsSoundCaseFile case_file cases sound_cases),
)

pub are_rigged : (config : Config) (cases : List CaseFile) → IsSoundConfig config → IsAccepted config → length cases ≡ length config.participant → All IsSoundCaseFile cases → AreAccepted config cases
    → AllZip (IsRigged config) config.participant cases
are_rigged config cases sound accepted one_each sound_cases kept =
    all_rigged config config.participant cases sound (accepted_suited config cases one_each sound_cases kept)
    (λ k d within. record {
      sound = sound.participants k d within;
      fit = participants config accepted k d within;
      sums = λ case_file. fit_sums config case_file sound accepted k d within;
    }) sound_cases

all_make : (config : Config) (parts : List PartTable) (cases : List CaseFile) → AllZip (IsRigged config) parts cases → AllZip (MakesRig config) parts cases
all_make config [] [] all = tt
all_make config [] (case_file ∷ cases) all = absurd all
all_make config (part ∷ parts) [] all = absurd all
all_make config (part ∷ parts) (case_file ∷ cases) all = (all.0.makes, all_make config parts cases all.1)

-- a rig can be made of each
pub all_make_rigs : (config : Config) (cases : List CaseFile) → IsSoundConfig config → IsAccepted config → length cases ≡ length config.participant → All IsSoundCaseFile cases → AreAccepted config cases
    → AllZip (MakesRig config) config.participant cases
all_make_rigs config cases sound accepted one_each sound_cases kept = all_make config config.participant cases (are_rigged config cases sound accepted one_each sound_cases kept)

-- there is a rig for each participant
pub as_many_rigs : (config : Config) (cases : List CaseFile) (rigs : List CaseRig) → length cases ≡ length config.participant → map parts_of rigs ≡ case_rigs config cases → length rigs ≡ length config.participant
as_many_rigs config cases rigs one_each made =
    let told : length (map parts_of rigs) ≡ length (case_rigs config cases) = ap (λ (all : List RigParts). length all) made in
    let listed : length (map parts_of rigs) ≡ length rigs = length-map rigs parts_of in
    let paired : length (case_rigs config cases) ≡ length (zip config.participant cases) = length-map (zip config.participant cases) (own_rig_of config) in
    let long : length (zip config.participant cases) ≡ min (length config.participant) (length cases) = length-zip config.participant cases in
    omega (arith, told, listed, paired, long, one_each)
