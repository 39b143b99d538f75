-- The files that are accepted: a configuration of two participants and its two cases, as they stand in src/base.rt, with any number of windows and any `add`. The project's own: the coupling documentation reads XML, and leaves the participants' files to them.
use Rattle.std.specs.Prelude.{ℕ, ◌≤◌, ◌^◌, Bool, false, ◌&&◌, if◌then◌else◌, List, length, nat_le, ℤ, pos, ◌*ℤ◌, unsigned_abs, Option, Some, None, codes}
use Rattle.std.specs.Option.{option_and_then, option_map_or}
use Rattle.std.specs.Result.{result_ok}
use Rattle.std.specs.Str.{is_utf8}
use Rattle.toml.specs.Data.{Data, string, integer, array, no_items, item, Members, no_members, member, same_key, get_member, as_table}
use Rattle.toml.specs.Parse.{parse_document}
use Rattle.line_text.specs.Reading.{reading}
use Rattle.coupling_run.specs.SameTree.{same_members}
use Rattle.coupling_run.specs.declared.base.TheConstants.{CONFIGURATION, FIRST_CASE, FIRST_ROW, SECOND_CASE}

infixl 10 ◌>>=◌
abbrev pub ◌>>=◌ : {A B : Type 0} → Option A → (A → Option B) → Option B
o >>= f = option_and_then f o

-- a file's tree: what TOML reads of at most a mebibyte of UTF-8
abbrev pub tree_of : List ℕ → Option Members
tree_of bytes = if nat_le (length bytes) 1048576 && is_utf8 bytes then parse_document bytes else None

-- the members are those of the text
abbrev pub is_tree_of : List ℕ → Members → Bool
is_tree_of text ms = option_map_or (same_members ms) (parse_document text) false

-- the members but for the one at the key
abbrev pub without : List ℕ → Members → Members
without key no_members = no_members
without key (member k d ms) = if same_key key k then ms else member k d (without key ms)

-- the value at the key, where the other members are those of the text
abbrev pub value_beside : List ℕ → List ℕ → Members → Option Data
value_beside key text ms = if is_tree_of text (without key ms) then get_member key ms else None

-- as many windows as a configuration may ask for
abbrev pub IsWindowCount : ℕ → Type 0
IsWindowCount count = (1 ≤ count) × (count ≤ 1000000)

-- the number of windows that a whole number is
abbrev pub window_count : Data → Option ℕ
window_count (integer (pos n)) = if nat_le 1 n && nat_le n 1000000 then Some n else None
window_count _ = None

-- the only item of a list
abbrev pub only_item : Data → Option Data
only_item (array (item d no_items)) = Some d
only_item _ = None

-- a number in units: the text of one, or a whole number of at most ten million in absolute value
abbrev pub number_units : Data → Option ℤ
number_units (string text) = result_ok (reading text)
number_units (integer n) = if nat_le (unsigned_abs n) (10 ^ 7) then Some (n *ℤ pos (10 ^ 6)) else None
number_units _ = None

-- the number of windows of a configuration
abbrev pub windows_of : List ℕ → Option ℕ
windows_of bytes = tree_of bytes >>= value_beside (codes "max-windows") CONFIGURATION.now >>= window_count

-- what the one row of A's case adds, in units
abbrev pub add_of : List ℕ → Option ℤ
add_of bytes =
    tree_of bytes >>= value_beside (codes "row") FIRST_CASE.now >>= only_item >>= as_table
    >>= value_beside (codes "add") FIRST_ROW.now >>= number_units

-- B's case
abbrev pub is_second_case : List ℕ → Bool
is_second_case bytes = option_map_or (is_tree_of SECOND_CASE.now) (tree_of bytes) false
