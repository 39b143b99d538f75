-- Why a case file is refused: its first broken rule. The project's own.
use Rattle.std.specs.Prelude.{◌≡◌, ℕ, ◌+◌, ◌<◌, ◌≤◌, ◌^◌, List, length, Some, None, ◌⊎◌}
use Rattle.toml.specs.Data.{Members}
use Rattle.cpl_rules.specs.declared.rules.Refusal.{Refusal}
use Rattle.cpl_rules.specs.SeenTables.{case_top}
use Rattle.cpl_rules.specs.Refused.{IsRefused}
use Rattle.cpl_config.specs.Acceptance.{tree_of}
use Rattle.case_files.specs.CaseAcceptance.{at_case}

-- too many bytes
pub record IsTooLongCase (part : ℕ) (bytes : List ℕ) (refusal : Refusal) : Type 0 where
  pub size : 2 ^ 20 < length bytes
  pub told : refusal ≡ at_case part 1

-- not too many, but no text of TOML
pub record IsNoTreeCase (part : ℕ) (bytes : List ℕ) (refusal : Refusal) : Type 0 where
  pub size : length bytes ≤ 2 ^ 20
  pub unread : tree_of bytes ≡ None
  pub told : refusal ≡ at_case part 2

-- a text of TOML whose tables break a rule: the refusal tells the first broken one
pub record HasBrokenCaseRule (part : ℕ) (bytes : List ℕ) (refusal : Refusal) : Type 0 where
  pub size : length bytes ≤ 2 ^ 20
  pub members : Members
  pub read : tree_of bytes ≡ Some members
  pub told : IsRefused (case_top (part + 1) members) refusal

abbrev pub IsFirstCaseFault : (part : ℕ) → List ℕ → Refusal → Type 0
IsFirstCaseFault part bytes refusal = IsTooLongCase part bytes refusal ⊎ (IsNoTreeCase part bytes refusal ⊎ HasBrokenCaseRule part bytes refusal)
