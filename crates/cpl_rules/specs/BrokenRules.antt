-- What it is for a table to break a rule. The project's own.
use Rattle.std.specs.Prelude.{ℕ, Bool, true, false, not, ◌&&◌, ◌||◌, nat_le, List, [], ◌∷◌, count_by, codes, Option, Some, None, is_some}
use Rattle.std.specs.List.{list_any}
use Rattle.std.specs.Option.{option_map_or}
use Rattle.std.specs.Str.{bytes_eq}
use Rattle.toml.specs.Data.{Data, Members, no_members, member}
use Rattle.cpl_tables.specs.declared.kinds.TableKind.{TableKind}
use Rattle.cpl_tables.specs.declared.kinds.TableKind.TheVariants.{Data as DataKind, Mesh, Participant, Watch, Exchange, CaseMesh}
use Rattle.cpl_tables.specs.declared.shapes.Presence.{Presence}
use Rattle.cpl_tables.specs.declared.shapes.Presence.TheVariants.{Required, Optional}
use Rattle.cpl_tables.specs.declared.shapes.Shape.{Shape}
use Rattle.cpl_tables.specs.KeyRule.{KeyRule}
use Rattle.cpl_tables.specs.Keys.{keys_of}
use Rattle.cpl_tables.specs.Values.{has_type, is_spelled, has_length, has_no_repeat}
use Rattle.cpl_rules.specs.declared.rules.Rule.{Rule}
use Rattle.cpl_rules.specs.declared.rules.Rule.TheVariants.{UnknownKey, MissingKey, WrongType, BadSpelling, BadLength, Repeated}
use Rattle.cpl_rules.specs.Seen.{Seen, value_at, text_at}

-- the keys of a table, as they stand
abbrev pub names_in : Members → List (List ℕ)
names_in no_members = []
names_in (member name _ members) = name ∷ names_in members

-- a key is listed for a kind of table
abbrev pub is_listed : TableKind → List ℕ → Bool
is_listed kind name = list_any (λ key. bytes_eq key.name name) (keys_of kind)

abbrev pub is_required : Presence → Bool
is_required Required = true
is_required Optional = false

-- a required key is missing
abbrev pub lacks : Seen → KeyRule → Bool
lacks seen key = is_required key.presence && not (is_some (value_at seen key))

-- the value of a key is not as the rule asks
abbrev pub value_breaks : Rule → Shape → Data → Bool
value_breaks WrongType shape value = not (has_type shape value)
value_breaks BadSpelling shape value = not (is_spelled shape value)
value_breaks BadLength shape value = not (has_length shape value)
value_breaks Repeated shape value = not (has_no_repeat shape value)
value_breaks _ _ _ = false

-- a listed key breaks the rule by itself
abbrev pub key_breaks : Rule → Seen → KeyRule → Bool
key_breaks MissingKey seen key = lacks seen key
key_breaks rule seen key = option_map_or (value_breaks rule key.shape) (value_at seen key) false

abbrev pub some_key_breaks : Rule → Seen → Bool
some_key_breaks rule seen = list_any (key_breaks rule seen) (keys_of seen.kind)

-- some key of the table is not listed for it
abbrev pub has_unknown_key : Seen → Bool
has_unknown_key seen = list_any (λ name. not (is_listed seen.kind name)) (names_in seen.members)

-- how many tables of a kind a whole file may have, for kinds that are counted over it
abbrev pub whole_file_limit : TableKind → Option ℕ
whole_file_limit Exchange = Some 256
whole_file_limit Watch = Some 64
whole_file_limit _ = None

abbrev pub are_counted_together : TableKind → TableKind → Bool
are_counted_together Exchange Exchange = true
are_counted_together Watch Watch = true
are_counted_together _ _ = false

-- as many tables of the kind stand before this one as the file may have
abbrev pub is_over_limit : List Seen → Seen → Bool
is_over_limit before seen =
    option_map_or (λ most. nat_le most (count_by (λ other. are_counted_together seen.kind other.kind) before)) (whole_file_limit seen.kind) false

-- tables of one kind, of which no two have one name
abbrev pub have_own_names : TableKind → TableKind → Bool
have_own_names DataKind DataKind = true
have_own_names Mesh Mesh = true
have_own_names (Participant _) (Participant _) = true
have_own_names Watch Watch = true
have_own_names CaseMesh CaseMesh = true
have_own_names _ _ = false

-- another table, of the kind, has the name
abbrev pub has_name : TableKind → List ℕ → Seen → Bool
has_name kind name other = have_own_names kind other.kind && option_map_or (bytes_eq name) (text_at other (codes "name")) false

-- an earlier table of the kind has the name of this one
abbrev pub is_second : List Seen → Seen → Bool
is_second before seen = option_map_or (λ name. list_any (has_name seen.kind name) before) (text_at seen (codes "name")) false

-- the table breaks the rule, after the tables before it
abbrev pub breaks : Rule → List Seen → Seen → Bool
breaks UnknownKey _ seen = has_unknown_key seen
breaks MissingKey _ seen = some_key_breaks MissingKey seen
breaks WrongType _ seen = some_key_breaks WrongType seen
breaks BadSpelling _ seen = some_key_breaks BadSpelling seen
breaks BadLength before seen = some_key_breaks BadLength seen || is_over_limit before seen
breaks Repeated before seen = some_key_breaks Repeated seen || is_second before seen
