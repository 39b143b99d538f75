-- A case file that breaks no rule. The project's own.
use Rattle.std.specs.Prelude.{◌≡◌, ℕ, ◌+◌, ◌≤◌, ◌^◌, List, length, Some}
use Rattle.toml.specs.Data.{Members}
use Rattle.cpl_rules.specs.SeenTables.{case_top}
use Rattle.cpl_rules.specs.Refused.{IsInOrder}
use Rattle.cpl_config.specs.Acceptance.{tree_of}

-- it has not too many bytes, is a text of TOML, and none of its tables breaks a rule
pub record HasNoCaseFault (part : ℕ) (bytes : List ℕ) : Type 0 where
  pub size : length bytes ≤ 2 ^ 20
  pub members : Members
  pub read : tree_of bytes ≡ Some members
  pub in_order : IsInOrder (case_top (part + 1) members)
