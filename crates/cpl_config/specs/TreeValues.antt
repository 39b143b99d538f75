-- What the value of a key means, by the type that is asked for. The project's own. What is not of that type means something arbitrary: no accepted file has it.
use Rattle.std.specs.Prelude.{ℕ, Bool, List, [], map, ℤ, pos, Option, option_map}
use Rattle.std.specs.Option.{option_map_or}
use Rattle.std.specs.Prelude.{unwrap_or}
use Rattle.toml.specs.Data.{Data, integer, boolean, table, Members, no_members, get_member}
use Rattle.cpl_tables.specs.Values.{list_of, text_of, number_of}

abbrev pub integer_of : Data → ℤ
integer_of (integer z) = z
integer_of _ = pos 0

abbrev pub units_of : Data → ℤ
units_of value = unwrap_or (number_of value) (pos 0)

abbrev pub truth_of : Data → Bool → Bool
truth_of (boolean b) _ = b
truth_of _ default = default

abbrev pub members_of : Data → Members
members_of (table members) = members
members_of _ = no_members

-- the value of a key of a table that has to be there
abbrev pub text_at : List ℕ → Members → List ℕ
text_at key members = option_map_or text_of (get_member key members) []

abbrev pub integer_at : List ℕ → Members → ℤ
integer_at key members = option_map_or integer_of (get_member key members) (pos 0)

abbrev pub units_at : List ℕ → Members → ℤ
units_at key members = option_map_or units_of (get_member key members) (pos 0)

-- the items of a list, and none where it is left out
abbrev pub list_at : List ℕ → Members → List Data
list_at key members = option_map_or list_of (get_member key members) []

abbrev pub texts_at : List ℕ → Members → List (List ℕ)
texts_at key members = map text_of (list_at key members)

abbrev pub units_list_at : List ℕ → Members → List ℤ
units_list_at key members = map units_of (list_at key members)

-- the tables of a list
abbrev pub tables_at : List ℕ → Members → List Members
tables_at key members = map members_of (list_at key members)

-- what may be left out, with what stands then
abbrev pub integer_or : ℤ → List ℕ → Members → ℤ
integer_or default key members = option_map_or integer_of (get_member key members) default

abbrev pub truth_or : Bool → List ℕ → Members → Bool
truth_or default key members = option_map_or (λ value. truth_of value default) (get_member key members) default

-- what may be left out, None where it is
abbrev pub text_if : List ℕ → Members → Option (List ℕ)
text_if key members = option_map text_of (get_member key members)

abbrev pub integer_if : List ℕ → Members → Option ℤ
integer_if key members = option_map integer_of (get_member key members)

abbrev pub texts_if : List ℕ → Members → Option (List (List ℕ))
texts_if key members = option_map (λ value. map text_of (list_of value)) (get_member key members)
