-- What the value of a key has to be: its type, how it is written, how long a list may be, and which names are distinct. The project's own.
use Rattle.std.specs.Prelude.{ℕ, ◌^◌, Bool, true, false, ◌&&◌, List, [], ◌∷◌, length, map, nat_le, not, ℤ, pos, ◌*ℤ◌, unsigned_abs, Option, Some, None, if◌then◌else◌}
use Rattle.std.specs.List.{list_all, list_any}
use Rattle.std.specs.Option.{option_map_or}
use Rattle.std.specs.Result.{result_ok}
use Rattle.std.specs.Str.{bytes_eq}
use Rattle.toml.specs.Data.{Data, string, integer, boolean, array, table, Items, no_items, item}
use Rattle.line_text.specs.Reading.{reading}
use Rattle.cpl_tables.specs.Words.{words_of}
use Rattle.cpl_tables.specs.declared.word_lists.WordList.{WordList}
use Rattle.cpl_tables.specs.declared.shapes.Range.{Range}
use Rattle.cpl_tables.specs.declared.shapes.Range.TheVariants.{Within, Between}
use Rattle.cpl_tables.specs.declared.shapes.Limit.{Limit}
use Rattle.cpl_tables.specs.declared.shapes.Limit.TheVariants.{Any, Items as ItemsLimit}
use Rattle.cpl_tables.specs.declared.shapes.Shape.{Shape}
use Rattle.cpl_tables.specs.declared.shapes.Shape.TheVariants.{Name, Text, Word, Boolean as BooleanShape, Integer as IntegerShape, Number, Names, Integers, Numbers, Points, Pairs, Tables, Table as TableShape}

-- the items of a list of TOML, one after the other
abbrev pub in_list : Items → List Data
in_list no_items = []
in_list (item d ds) = d ∷ in_list ds

-- the items of a value that is a list; of any other there are none
abbrev pub list_of : Data → List Data
list_of (array ds) = in_list ds
list_of _ = []

-- the text of a value that is one; of any other it is empty
abbrev pub text_of : Data → List ℕ
text_of (string text) = text
text_of _ = []

-- the units of a number, which is the text of one or a whole number; none of what is out of the range of Values
abbrev pub number_of : Data → Option ℤ
number_of (string text) = result_ok (reading text)
number_of (integer whole) = if nat_le (unsigned_abs whole) (10 ^ 7) then Some (whole *ℤ pos (10 ^ 6)) else None
number_of _ = None

-- the number of a pair of an integer and a number
abbrev pub number_in_pair : List Data → Option ℤ
number_in_pair (_ ∷ number ∷ []) = number_of number
number_in_pair _ = None

abbrev pub number_of_pair : Data → Option ℤ
number_of_pair value = number_in_pair (list_of value)

-- Types

abbrev pub is_text : Data → Bool
is_text (string _) = true
is_text _ = false

abbrev pub is_integer : Data → Bool
is_integer (integer _) = true
is_integer _ = false

-- a number is the text of one or a whole number, never one with a fraction of TOML's own
abbrev pub is_number : Data → Bool
is_number (string _) = true
is_number (integer _) = true
is_number _ = false

abbrev pub is_table : Data → Bool
is_table (table _) = true
is_table _ = false

abbrev pub is_point : Data → Bool
is_point (array coordinates) = list_all is_number (in_list coordinates)
is_point _ = false

abbrev pub are_pair : List Data → Bool
are_pair (index ∷ number ∷ []) = is_integer index && is_number number
are_pair _ = false

abbrev pub is_pair : Data → Bool
is_pair value = are_pair (list_of value)

abbrev pub is_word : WordList → List ℕ → Bool
is_word list text = list_any (bytes_eq text) (words_of list)

-- the items of a list have the type that the shape asks of each
abbrev pub is_list_of : Shape → List Data → Bool
is_list_of (Names _) = list_all is_text
is_list_of Integers = list_all is_integer
is_list_of (Numbers _ _) = list_all is_number
is_list_of (Points _ _) = list_all is_point
is_list_of (Pairs _ _) = list_all is_pair
is_list_of (Tables _ _) = list_all is_table
is_list_of _ = λ _. false

-- the value has the type of the shape; a word that is not listed has not
abbrev pub has_type : Shape → Data → Bool
has_type Name (string _) = true
has_type Text (string _) = true
has_type (Word list) (string text) = is_word list text
has_type BooleanShape (boolean _) = true
has_type (IntegerShape _) (integer _) = true
has_type (Number _) value = is_number value
has_type (TableShape _) (table _) = true
has_type shape (array ds) = is_list_of shape (in_list ds)
has_type _ _ = false

-- Spellings and ranges

abbrev pub is_in_range : Range → ℤ → Bool
is_in_range (Within most) z = nat_le (unsigned_abs z) most
is_in_range (Between least most) (pos n) = nat_le least n && nat_le n most
is_in_range (Between _ _) _ = false

-- a byte that is seen: a letter, digit or mark of ASCII, and no blank
abbrev pub is_visible : ℕ → Bool
is_visible byte = nat_le 33 byte && nat_le byte 126

abbrev pub is_name : List ℕ → Bool
is_name text = (nat_le 1 (length text) && nat_le (length text) 64) && list_all is_visible text

abbrev pub is_short_text : List ℕ → Bool
is_short_text text = nat_le 1 (length text) && nat_le (length text) 256

abbrev pub is_number_in : Range → Data → Bool
is_number_in range value = option_map_or (is_in_range range) (number_of value) false

abbrev pub is_pair_in : Range → Data → Bool
is_pair_in range pair = option_map_or (is_in_range range) (number_of_pair pair) false

abbrev pub is_point_in : Range → Data → Bool
is_point_in range point = list_all (is_number_in range) (list_of point)

abbrev pub is_name_text : Data → Bool
is_name_text value = is_name (text_of value)

-- the items of a list are spelled as the shape asks of each
abbrev pub are_spelled : Shape → List Data → Bool
are_spelled (Names _) = list_all is_name_text
are_spelled (Numbers _ range) = list_all (is_number_in range)
are_spelled (Points _ range) = list_all (is_point_in range)
are_spelled (Pairs _ range) = list_all (is_pair_in range)
are_spelled _ = λ _. true

-- the value, which has the type of the shape, is spelled as its names and numbers have to be, and these are in range
abbrev pub is_spelled : Shape → Data → Bool
is_spelled Name value = is_name (text_of value)
is_spelled Text value = is_short_text (text_of value)
is_spelled (IntegerShape range) (integer z) = is_in_range range z
is_spelled (Number range) value = is_number_in range value
is_spelled shape value = are_spelled shape (list_of value)

-- Lengths

abbrev pub is_within : Limit → ℕ → Bool
is_within Any _ = true
is_within (ItemsLimit least most) count = nat_le least count && nat_le count most

-- the list is as long as the shape allows
abbrev pub has_length : Shape → Data → Bool
has_length (Names limit) value = is_within limit (length (list_of value))
has_length (Numbers limit _) value = is_within limit (length (list_of value))
has_length (Points limit _) value = is_within limit (length (list_of value))
has_length (Pairs limit _) value = is_within limit (length (list_of value))
has_length (Tables _ limit) value = is_within limit (length (list_of value))
has_length _ _ = true

-- Names that may not repeat

-- no text stands twice in the list
abbrev pub are_distinct_texts : List (List ℕ) → Bool
are_distinct_texts [] = true
are_distinct_texts (text ∷ texts) = not (list_any (bytes_eq text) texts) && are_distinct_texts texts

-- no name of a list of names stands in it twice
abbrev pub has_no_repeat : Shape → Data → Bool
has_no_repeat (Names _) value = are_distinct_texts (map text_of (list_of value))
has_no_repeat _ _ = true
