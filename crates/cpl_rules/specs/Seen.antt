-- A table of a file as the rules see it. The project's own.
use Rattle.std.specs.Prelude.{ℕ, List, Option}
use Rattle.std.specs.Option.{option_and_then}
use Rattle.toml.specs.Data.{Data, Members, get_member, as_str}
use Rattle.toml.specs.View.{table_view}
use Rattle.cpl_tables.specs.declared.kinds.TableKind.{TableKind}
use Rattle.cpl_tables.specs.declared.places.Place.{Place}
use Rattle.cpl_tables.specs.KeyRule.{KeyRule}
use Rattle.cpl_rules.specs.declared.spots.TableSpot.{TableSpot}

-- where it stands, what kind of table it is, and its keys with their values
pub record Seen : Type 0 where
  pub place : Place
  pub kind : TableKind
  pub members : Members

-- what a table of the code stands for
abbrev pub seen_of : TableSpot → Seen
seen_of spot = record { place = spot.place; kind = spot.kind; members = table_view spot.table.now }

-- the value of a key
abbrev pub value_at : Seen → KeyRule → Option Data
value_at seen key = get_member key.name seen.members

-- the text of a key
abbrev pub text_at : Seen → List ℕ → Option (List ℕ)
text_at seen name = option_and_then as_str (get_member name seen.members)
