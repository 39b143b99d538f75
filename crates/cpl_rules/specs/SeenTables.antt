-- The tables of a configuration or a case file, in the order of their places. The project's own.
use Rattle.std.specs.Prelude.{ℕ, ◌+◌, List, [], ◌∷◌, flat_map, codes, pos, Option, Some, if◌then◌else◌}
use Rattle.std.specs.Str.{bytes_eq}
use Rattle.std.specs.Ordering.{int_eq}
use Rattle.toml.specs.Data.{Data, string, integer, table, Members, get_member}
use Rattle.cpl_tables.specs.declared.kinds.Format.{Format}
use Rattle.cpl_tables.specs.declared.kinds.Format.TheVariants.{One, Two}
use Rattle.cpl_tables.specs.declared.kinds.TableKind.{TableKind}
use Rattle.cpl_tables.specs.declared.kinds.TableKind.TheVariants.{Config, RowsCase, RodCase, SpringCase, RecordedCase, AnyCase}
use Rattle.cpl_tables.specs.declared.places.Place.TheVariants.{Config as ConfigPlace, Case}
use Rattle.cpl_tables.specs.declared.shapes.Shape.{Shape}
use Rattle.cpl_tables.specs.declared.shapes.Shape.TheVariants.{Tables, Table}
use Rattle.cpl_tables.specs.KeyRule.{KeyRule}
use Rattle.cpl_tables.specs.Keys.{keys_of}
use Rattle.cpl_tables.specs.Places.{place_in, number_at}
use Rattle.cpl_tables.specs.Values.{list_of}
use Rattle.cpl_rules.specs.Seen.{Seen, value_at}

-- a table of a kind, with its number among the items under its key
abbrev pub table_in : Seen → TableKind → ℕ → Members → Seen
table_in seen kind number members = record { place = place_in seen.place kind number; kind = kind; members = members }

-- the tables among the items of a list, of which the first has this index; an item that is no table keeps its number
abbrev pub tables_listed : Seen → TableKind → ℕ → List Data → List Seen
tables_listed seen kind index [] = []
tables_listed seen kind index (table members ∷ items) = table_in seen kind (number_at index) members ∷ tables_listed seen kind (index + 1) items
tables_listed seen kind index (_ ∷ items) = tables_listed seen kind (index + 1) items

-- the tables in a value of this shape: those of a list, or the one that it is
abbrev pub tables_of : Seen → Shape → Option Data → List Seen
tables_of seen (Tables kind _) (Some value) = tables_listed seen kind 0 (list_of value)
tables_of seen (Table kind) (Some (table members)) = table_in seen kind 1 members ∷ []
tables_of _ _ _ = []

-- the tables under a key
abbrev pub tables_under : Seen → KeyRule → List Seen
tables_under seen key = tables_of seen key.shape (value_at seen key)

-- the tables under the keys of a table, in the order of its keys
abbrev pub tables_in : Seen → List Seen
tables_in seen = flat_map (tables_under seen) (keys_of seen.kind)

-- each of some tables, followed by the tables in it
abbrev pub each_with_inner : List Seen → List Seen
each_with_inner = flat_map (λ outer. outer ∷ tables_in outer)

-- the whole file's tables: none lies deeper than in a table that is in the top one
abbrev pub all_tables : Seen → List Seen
all_tables top = top ∷ each_with_inner (tables_in top)

-- the format of a configuration, by the value of its `format`: 2 where that is the integer 2, and else 1
abbrev pub format_of : Option Data → Format
format_of (Some (integer number)) = if int_eq number (pos 2) then Two else One
format_of _ = One

-- a configuration's own table
abbrev pub config_top : Members → Seen
config_top members = record { place = ConfigPlace; kind = Config (format_of (get_member (codes "format") members)); members = members }

-- the kind of a case file, by the word for its solver
abbrev pub kind_of_word : List ℕ → TableKind
kind_of_word word =
    if bytes_eq word (codes "rows") then RowsCase
    else if bytes_eq word (codes "rod") then RodCase
    else if bytes_eq word (codes "spring") then SpringCase
    else if bytes_eq word (codes "recorded") then RecordedCase
    else AnyCase

abbrev pub case_kind : Option Data → TableKind
case_kind (Some (string word)) = kind_of_word word
case_kind _ = AnyCase

-- the own table of the case file of the participant with this number, from 1
abbrev pub case_top : ℕ → Members → Seen
case_top number members = record { place = Case number; kind = case_kind (get_member (codes "solver") members); members = members }
