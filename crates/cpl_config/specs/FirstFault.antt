-- Why a file is refused: its first broken rule, at the first place that breaks it. The project's own.
use Rattle.std.specs.Prelude.{◌≡◌, ℕ, ◌<◌, ◌≤◌, ◌^◌, List, length, Some, None, ◌⊎◌}
use Rattle.toml.specs.Data.{Members}
use Rattle.cpl_rules.specs.declared.rules.Refusal.{Refusal}
use Rattle.cpl_rules.specs.SeenTables.{config_top}
use Rattle.cpl_rules.specs.Refused.{IsRefused}
use Rattle.cpl_config.specs.Acceptance.{at_config, tree_of}

-- too many bytes
pub record IsTooLong (bytes : List ℕ) (refusal : Refusal) : Type 0 where
  pub size : 2 ^ 20 < length bytes
  pub told : refusal ≡ at_config 1

-- not too many, but no text of TOML
pub record IsNoTree (bytes : List ℕ) (refusal : Refusal) : Type 0 where
  pub size : length bytes ≤ 2 ^ 20
  pub unread : tree_of bytes ≡ None
  pub told : refusal ≡ at_config 2

-- a text of TOML whose tables break a rule: the refusal tells the first broken one, and the first table that breaks it
pub record HasBrokenRule (bytes : List ℕ) (refusal : Refusal) : Type 0 where
  pub size : length bytes ≤ 2 ^ 20
  pub members : Members
  pub read : tree_of bytes ≡ Some members
  pub told : IsRefused (config_top members) refusal

abbrev pub IsFirstFault : List ℕ → Refusal → Type 0
IsFirstFault bytes refusal = IsTooLong bytes refusal ⊎ (IsNoTree bytes refusal ⊎ HasBrokenRule bytes refusal)
