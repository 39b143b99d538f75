-- From the flat list of a file's tables to the tables under each key, and from these to what they mean.
use Rattle.std.proofs.Common.{ℕ, ◌+◌, List, [], ◌∷◌, ◌++◌, All, map, flat_map, IfSome, IsTrue, Option, Some, None, option_map}
use Rattle.std.specs.List.{list_all, AllByRecursion}
use Rattle.std.specs.Option.{option_map_or}
use Rattle.std.proofs.lemmas.Bool.{false≢true}
use Rattle.std.proofs.lemmas.List.Elements.{All-nil, All-from_recursion}
use Rattle.toml.specs.Data.{Data, array, table, Members}
use Rattle.cpl_tables.specs.declared.kinds.TableKind.{TableKind}
use Rattle.cpl_tables.specs.declared.places.Place.{Place}
use Rattle.cpl_tables.specs.declared.shapes.Limit.{Limit}
use Rattle.cpl_tables.specs.declared.shapes.Presence.{Presence}
use Rattle.cpl_tables.specs.declared.shapes.Presence.TheVariants.{Optional}
use Rattle.cpl_tables.specs.declared.shapes.Shape.TheVariants.{Tables, Table}
use Rattle.cpl_tables.specs.KeyRule.{KeyRule}
use Rattle.cpl_tables.specs.Places.{place_in, number_at}
use Rattle.cpl_tables.specs.Values.{in_list, list_of, is_table}
use Rattle.cpl_rules.specs.Seen.{Seen}
use Rattle.cpl_rules.specs.SeenTables.{tables_listed, tables_of, tables_under, tables_in, each_with_inner}
use Rattle.cpl_config.specs.TreeValues.{members_of}
use Rattle.cpl_config.proofs.SoundValues.{IsRightAt}
use Rattle.cpl_config.proofs.SoundRules.{IsRightSeen}

pub split_all : {X : Type 0} (P : X → Type 0) (xs ys : List X) → AllByRecursion P (xs ++ ys) → AllByRecursion P xs × AllByRecursion P ys
split_all P [] ys all = (tt, all)
split_all P (x ∷ xs) ys all = let rest = split_all P xs ys all.1 in ((all.0, rest.0), rest.1)

-- what holds of each table under each of the keys
abbrev pub AllUnder : (Seen → Type 0) → Seen → List KeyRule → Type 0
AllUnder P seen [] = Unit {0}
AllUnder P seen (key ∷ keys) = AllByRecursion P (tables_under seen key) × AllUnder P seen keys

pub by_keys : (P : Seen → Type 0) (seen : Seen) (keys : List KeyRule) → AllByRecursion P (flat_map (tables_under seen) keys) → AllUnder P seen keys
by_keys P seen [] all = tt
by_keys P seen (key ∷ keys) all =
    let parts = split_all P (tables_under seen key) (flat_map (tables_under seen) keys) all in
    (parts.0, by_keys P seen keys parts.1)

-- a table is right, and so is each table under its keys
pub record IsRightWithin (seen : Seen) : Type 0 where
  pub itself : IsRightSeen seen
  pub inner : AllByRecursion IsRightSeen (tables_in seen)

pub all_within : (tables : List Seen) → AllByRecursion IsRightSeen (each_with_inner tables) → AllByRecursion IsRightWithin tables
all_within [] all = tt
all_within (seen ∷ tables) all =
    let parts = split_all IsRightSeen (tables_in seen) (each_with_inner tables) all.1 in
    (record { itself = all.0; inner = parts.0 }, all_within tables parts.1)

module _ {T : Type 0} (kind : TableKind) (P : Seen → Type 0) (S : T → Type 0) (meaning : Members → T)
    (means : (place : Place) (members : Members) → P (record { place = place; kind = kind; members = members }) → S (meaning members)) where
  -- what each table of a list means
  listed : (seen : Seen) (index : ℕ) (items : List Data) → IsTrue (list_all is_table items) → AllByRecursion P (tables_listed seen kind index items) → AllByRecursion S (map meaning (map members_of items))
  listed seen index [] typed all = tt
  listed seen index (table tree ∷ items) typed all =
      (means (place_in seen.place kind (number_at index)) tree all.0, listed seen (index + 1) items typed all.1)
  listed seen index (_ ∷ items) typed all = absurd (false≢true typed)

  -- what the tables under a key mean
  pub under : (seen : Seen) {presence : Presence} {limit : Limit} {value : Option Data} → IsRightAt presence (Tables kind limit) value
      → AllByRecursion P (tables_of seen (Tables kind limit) value) → All S (map meaning (map members_of (option_map_or list_of value [])))
  under seen {presence} {limit} {value = None} right all = All-nil S
  under seen {presence} {limit} {value = Some (array items)} right all =
      All-from_recursion S (map meaning (map members_of (in_list items))) (listed seen 0 (in_list items) right.fits.typed all)
  under seen {presence} {limit} {value = Some _} right all = absurd (false≢true right.fits.typed)

  -- what the one table under a key means
  pub one_under : (seen : Seen) {value : Option Data} → IsRightAt Optional (Table kind) value
      → AllByRecursion P (tables_of seen (Table kind) value) → IfSome (option_map (λ v. meaning (members_of v)) value) S
  one_under seen {value = None} right all = tt
  one_under seen {value = Some (table tree)} right all = means (place_in seen.place kind 1) tree all.0
  one_under seen {value = Some _} right all = absurd (false≢true right.fits.typed)
