-- What it is for a file to be accepted: its tree is that of the text in src/base.rt, with the number in its place. The project's own.
use Rattle.std.specs.Prelude.{◌≡◌, ℕ, List, ℤ, pos, Some, codes}
use Rattle.toml.specs.Data.{Data, integer, array, table, item, no_items, Members, get_member}
use Rattle.toml.specs.Parse.{parse_document}
use Rattle.coupling_run.specs.Form.{tree_of, without, IsWindowCount, number_units}
use Rattle.coupling_run.specs.declared.base.TheConstants.{CONFIGURATION, FIRST_CASE, FIRST_ROW, SECOND_CASE}

-- the configuration with this number of windows
pub record IsConfiguration (bytes : List ℕ) (count : ℕ) : Type 0 where
  pub tree : Members
  pub read : tree_of bytes ≡ Some tree
  pub windows : get_member (codes "max-windows") tree ≡ Some (integer (pos count))
  pub range : IsWindowCount count
  pub rest : parse_document CONFIGURATION.now ≡ Some (without (codes "max-windows") tree)

-- A's case, whose one row adds this many units
pub record IsFirstCase (bytes : List ℕ) (units : ℤ) : Type 0 where
  pub tree : Members
  pub row : Members
  pub number : Data
  pub read : tree_of bytes ≡ Some tree
  pub rows : get_member (codes "row") tree ≡ Some (array (item (table row) no_items))
  pub rest : parse_document FIRST_CASE.now ≡ Some (without (codes "row") tree)
  pub add : get_member (codes "add") row ≡ Some number
  pub others : parse_document FIRST_ROW.now ≡ Some (without (codes "add") row)
  pub worth : number_units number ≡ Some units

-- B's case
pub record IsSecondCase (bytes : List ℕ) : Type 0 where
  pub tree : Members
  pub read : tree_of bytes ≡ Some tree
  pub same : parse_document SECOND_CASE.now ≡ Some tree
