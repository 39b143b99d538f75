-- What is known of a coupling whose files are accepted. The project's own.
use Rattle.std.specs.Prelude.{◌≡◌, ℕ, ◌+◌, List, [], ◌∷◌, length, All, Ok}
use Rattle.cpl_config.specs.Acceptance.{acceptance}
use Rattle.cpl_config.specs.NoFault.{HasNoFault}
use Rattle.cpl_config.specs.SoundConfig.{IsSoundConfig}
use Rattle.cpl_config.specs.declared.config.Config.{Config}
use Rattle.case_files.specs.CaseAcceptance.{case_acceptance}
use Rattle.case_files.specs.NoCaseFault.{HasNoCaseFault}
use Rattle.case_files.specs.SoundCase.{IsSoundCaseFile}
use Rattle.case_files.specs.declared.case_file.CaseFile.{CaseFile}
use Rattle.config_rules.specs.ConfigRules.{IsAccepted}
use Rattle.case_rules.specs.CaseRules.{AreAccepted}
use Rattle.accepted_case.specs.declared.parts.AcceptedCase.{AcceptedCase}

-- the configuration is what the bytes of a file mean, which break none of the rules 1 to 8
pub record IsReadConfig (config : Config) : Type 0 where
  pub bytes : List ℕ
  pub read : acceptance bytes ≡ Ok config
  pub unbroken : HasNoFault bytes

-- so is the case file of the participant with this number, from 0
pub record IsReadCase (part : ℕ) (case_file : CaseFile) : Type 0 where
  pub bytes : List ℕ
  pub read : case_acceptance part bytes ≡ Ok case_file
  pub unbroken : HasNoCaseFault part bytes

-- and those after it
abbrev pub AreReadCases : (part : ℕ) → List CaseFile → Type 0
AreReadCases part [] = Unit {0}
AreReadCases part (case_file ∷ others) = IsReadCase part case_file × AreReadCases (part + 1) others

-- all files keep the rules 1 to 8; the configuration keeps the rules 9 to 30, 33 and 35; there is a case file for each participant, and with the configuration they keep the rules 31 and 32
pub record IsAcceptedCase (accepted : AcceptedCase) : Type 0 where
  pub config_read : IsReadConfig accepted.config
  pub sound : IsSoundConfig accepted.config
  pub kept : IsAccepted accepted.config
  pub one_each : length accepted.cases ≡ length accepted.config.participant
  pub cases_read : AreReadCases 0 accepted.cases
  pub sound_cases : All IsSoundCaseFile accepted.cases
  pub kept_by_cases : AreAccepted accepted.config accepted.cases
