use Rattle.std.proofs.Common.{◌≡◌, true, false, ℕ, List, Option, Some, None, refl, ◌∙◌, ap, codes, pos, ℤ}
use Rattle.std.specs.Option.{option_map_or, option_and_then}
use Rattle.toml.specs.Data.{integer, array, table, item, no_items, Members, as_table, get_member}
use Rattle.toml.specs.Parse.{parse_document}
use Rattle.coupling_run.specs.Form.{tree_of, value_beside, windows_of, window_count, add_of, only_item, number_units, is_second_case, is_tree_of}
use Rattle.coupling_run.specs.Accepted.{IsConfiguration, IsFirstCase, IsSecondCase}
use Rattle.coupling_run.specs.declared.base.TheConstants.{CONFIGURATION, FIRST_CASE, FIRST_ROW, SECOND_CASE}
use Rattle.coupling_run.proofs.Plain.{configuration_is_plain, first_case_is_plain, first_row_is_plain, second_case_is_plain}
use Rattle.coupling_run.proofs.SameTrees.{read_same-equal, read_same-itself}
use Rattle.coupling_run.proofs.Accepting.{then_some, value_beside-found, value_beside-finds, window_count-some, window_count-of, only_item-some, as_table-some}
use Rattle.coupling_run.proofs.laws.accepted_files.Goals as goal

some_same : {A : Type 0} {o : Option A} {x y : A} → o ≡ Some x → x ≡ y → o ≡ Some y
some_same found same = found ∙ ap Some same

configuration_from : (bytes : List ℕ) (count : ℕ) → windows_of bytes ≡ Some count → IsConfiguration bytes count
configuration_from bytes count h =
    let (number, beside, counted) = then_some (option_and_then (value_beside (codes "max-windows") CONFIGURATION.now) (tree_of bytes)) window_count count h in
    let (tree, read, found) = then_some (tree_of bytes) (value_beside (codes "max-windows") CONFIGURATION.now) number beside in
    let (windows, rest) = value_beside-found (codes "max-windows") CONFIGURATION.now tree number found in
    let (same, least, most) = window_count-some number count counted in
    record { tree = tree; read = read; windows = some_same {o = get_member (codes "max-windows") tree} windows same; range = (least, most); rest = rest }

configuration_counts : (bytes : List ℕ) (count : ℕ) → IsConfiguration bytes count → windows_of bytes ≡ Some count
configuration_counts bytes count k =
    rw (k.read, value_beside-finds (codes "max-windows") CONFIGURATION.now k.tree (integer (pos count)) configuration_is_plain k.windows k.rest) (window_count-of count k.range.0 k.range.1)

pub returns-clause-windows : goal.returns-clause-windows
returns-clause-windows c = λ bytes count. (configuration_from bytes count, configuration_counts bytes count)

first_from : (bytes : List ℕ) (units : ℤ) → add_of bytes ≡ Some units → IsFirstCase bytes units
first_from bytes units h =
    let beside_row = value_beside (codes "row") FIRST_CASE.now in
    let beside_add = value_beside (codes "add") FIRST_ROW.now in
    let rows_of = option_and_then beside_row (tree_of bytes) in
    let row_of = option_and_then as_table (option_and_then only_item rows_of) in
    let (number, chosen, worth) = then_some (option_and_then beside_add row_of) number_units units h in
    let (row, only_row, beside) = then_some row_of beside_add number chosen in
    let (one, only, is_table) = then_some (option_and_then only_item rows_of) as_table row only_row in
    let (rows, some_rows, single) = then_some rows_of only_item one only in
    let (tree, read, found) = then_some (tree_of bytes) beside_row rows some_rows in
    let (at_row, rest) = value_beside-found (codes "row") FIRST_CASE.now tree rows found in
    let (at_add, others) = value_beside-found (codes "add") FIRST_ROW.now row number beside in
    let listed : rows ≡ array (item (table row) no_items) = rw (← as_table-some one row is_table) (only_item-some rows one single) in
    record {
      tree = tree;
      row = row;
      number = number;
      read = read;
      rows = some_same {o = get_member (codes "row") tree} at_row listed;
      rest = rest;
      add = at_add;
      others = others;
      worth = worth;
    }

first_adds : (bytes : List ℕ) (units : ℤ) → IsFirstCase bytes units → add_of bytes ≡ Some units
first_adds bytes units k =
    rw (
      k.read,
      value_beside-finds (codes "row") FIRST_CASE.now k.tree (array (item (table k.row) no_items)) first_case_is_plain k.rows k.rest,
      value_beside-finds (codes "add") FIRST_ROW.now k.row k.number first_row_is_plain k.add k.others,
    ) k.worth

pub returns-clause-first : goal.returns-clause-first
returns-clause-first c = λ bytes units. (first_from bytes units, first_adds bytes units)

read_tree : (read : Option Members) → option_map_or (is_tree_of SECOND_CASE.now) read false ≡ true → (ms : Members) × (read ≡ Some ms) × (is_tree_of SECOND_CASE.now ms ≡ true)
read_tree None h = cc
read_tree (Some ms) h = (ms, refl, h)

second_from : (bytes : List ℕ) → is_second_case bytes ≡ true → IsSecondCase bytes
second_from bytes h =
    let (tree, read, same) = read_tree (tree_of bytes) h in
    record { tree = tree; read = read; same = read_same-equal (parse_document SECOND_CASE.now) tree same }

second_is : (bytes : List ℕ) → IsSecondCase bytes → is_second_case bytes ≡ true
second_is bytes k = rw k.read (read_same-itself (parse_document SECOND_CASE.now) k.tree second_case_is_plain k.same)

pub returns-clause-second : goal.returns-clause-second
returns-clause-second c = λ bytes. (second_from bytes, second_is bytes)
