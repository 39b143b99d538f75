-- Tables of one kind among those of a whole file, in their order.
use Rattle.std.proofs.Common.{◌≡◌, ℕ, zero, suc, ◌+◌, ◌<◌, List, [], ◌∷◌, ◌++◌, length, get_or, map, flat_map, IsTrue, Option, Some, None, refl, ap, ◌∙◌, arith}
use Rattle.std.specs.List.{list_all, AllByRecursion}
use Rattle.std.specs.Option.{option_map_or}
use Rattle.std.proofs.lemmas.Bool.{false≢true}
use Rattle.std.proofs.lemmas.List.Concat.{flat_map-append}
use Rattle.toml.specs.Data.{Data, array, table, Members}
use Rattle.cpl_tables.specs.declared.kinds.TableKind.{TableKind}
use Rattle.cpl_tables.specs.declared.places.Place.{Place}
use Rattle.cpl_tables.specs.declared.shapes.Limit.{Limit}
use Rattle.cpl_tables.specs.declared.shapes.Presence.{Presence}
use Rattle.cpl_tables.specs.declared.shapes.Shape.TheVariants.{Tables}
use Rattle.cpl_tables.specs.KeyRule.{KeyRule}
use Rattle.cpl_tables.specs.Places.{place_in, number_at}
use Rattle.cpl_tables.specs.Values.{in_list, list_of, is_table}
use Rattle.cpl_rules.specs.Seen.{Seen}
use Rattle.cpl_rules.specs.SeenTables.{tables_listed, tables_of, tables_in, each_with_inner}
use Rattle.cpl_config.specs.TreeValues.{members_of}
use Rattle.cpl_config.proofs.SoundValues.{IsRightAt}
use Rattle.cpl_config.proofs.SoundTables.{IsRightWithin}

-- these are the members of some of the tables, all of the kind, in the tables' order
pub data IsPick (kind : TableKind) : List Members → List Seen → Type 0 where
  nothing : IsPick kind [] []
  picked : {tree : Members} {trees : List Members} {seen : Seen} {tables : List Seen} → seen.kind ≡ kind → seen.members ≡ tree → IsPick kind trees tables → IsPick kind (tree ∷ trees) (seen ∷ tables)
  passed : {trees : List Members} {seen : Seen} {tables : List Seen} → IsPick kind trees tables → IsPick kind trees (seen ∷ tables)

pick_none : {kind : TableKind} (tables : List Seen) → IsPick kind [] tables
pick_none [] = nothing
pick_none (seen ∷ tables) = passed (pick_none tables)

pick_both : {kind : TableKind} {trees others : List Members} {tables more : List Seen} → IsPick kind trees tables → IsPick kind others more → IsPick kind (trees ++ others) (tables ++ more)
pick_both nothing rest = rest
pick_both (picked same is pick) rest = picked same is (pick_both pick rest)
pick_both (passed pick) rest = passed (pick_both pick rest)

pub pick_behind : {kind : TableKind} {trees : List Members} (tables : List Seen) {more : List Seen} → IsPick kind trees more → IsPick kind trees (tables ++ more)
pick_behind [] pick = pick
pick_behind (seen ∷ tables) pick = passed (pick_behind tables pick)

pick_before : {kind : TableKind} {trees : List Members} {tables : List Seen} → IsPick kind trees tables → (more : List Seen) → IsPick kind trees (tables ++ more)
pick_before nothing more = pick_none more
pick_before (picked same is pick) more = picked same is (pick_before pick more)
pick_before (passed pick) more = passed (pick_before pick more)

-- a pick of the tables under one of the keys
pub pick_at : {kind : TableKind} {trees : List Members} (under : KeyRule → List Seen) (keys : List KeyRule) (index : ℕ) (past : KeyRule) → index < length keys
    → IsPick kind trees (under (get_or keys index past)) → IsPick kind trees (flat_map under keys)
pick_at under [] index past within pick = absurd (omega arith)
pick_at under (key ∷ keys) zero past within pick = pick_before pick (flat_map under keys)
pick_at under (key ∷ keys) (suc index) past within pick = pick_behind (under key) (pick_at under keys index past (omega arith) pick)

-- a pick of the tables is one of the tables with those in them
pub pick_outer : {kind : TableKind} {trees : List Members} {tables : List Seen} → IsPick kind trees tables → IsPick kind trees (each_with_inner tables)
pick_outer nothing = nothing
pick_outer (picked {seen = seen} same is pick) = picked same is (pick_behind (tables_in seen) (pick_outer pick))
pick_outer (passed {seen = seen} pick) = passed (pick_behind (tables_in seen) (pick_outer pick))

pick_listed : (kind : TableKind) (seen : Seen) (index : ℕ) (items : List Data) → IsTrue (list_all is_table items) → IsPick kind (map members_of items) (tables_listed seen kind index items)
pick_listed kind seen index [] typed = nothing
pick_listed kind seen index (table tree ∷ items) typed = picked refl refl (pick_listed kind seen (index + 1) items typed)
pick_listed kind seen index (_ ∷ items) typed = absurd (false≢true typed)

-- all tables under a key
pub pick_under : (seen : Seen) {presence : Presence} {kind : TableKind} {limit : Limit} {value : Option Data} → IsRightAt presence (Tables kind limit) value
    → IsPick kind (map members_of (option_map_or list_of value [])) (tables_of seen (Tables kind limit) value)
pick_under seen {presence} {kind} {limit} {value = None} right = nothing
pick_under seen {presence} {kind} {limit} {value = Some (array items)} right = pick_listed kind seen 0 (in_list items) right.fits.typed
pick_under seen {presence} {kind} {limit} {value = Some _} right = absurd (false≢true right.fits.typed)

module _ (outer inner : TableKind) (trees_in : Members → List Members)
    (picks : (place : Place) (tree : Members) → IsRightWithin (record { place = place; kind = outer; members = tree }) → IsPick inner (trees_in tree) (tables_in (record { place = place; kind = outer; members = tree }))) where
  pick_in_listed : (seen : Seen) (index : ℕ) (items : List Data) → IsTrue (list_all is_table items) → AllByRecursion IsRightWithin (tables_listed seen outer index items)
      → IsPick inner (flat_map trees_in (map members_of items)) (each_with_inner (tables_listed seen outer index items))
  pick_in_listed seen index [] typed all = nothing
  pick_in_listed seen index (table tree ∷ items) typed all =
      passed (pick_both (picks (place_in seen.place outer (number_at index)) tree all.0) (pick_in_listed seen (index + 1) items typed all.1))
  pick_in_listed seen index (_ ∷ items) typed all = absurd (false≢true typed)

  -- tables in each of the tables under a key
  pub pick_inner : (seen : Seen) {presence : Presence} {limit : Limit} {value : Option Data} → IsRightAt presence (Tables outer limit) value
      → AllByRecursion IsRightWithin (tables_of seen (Tables outer limit) value)
      → IsPick inner (flat_map trees_in (map members_of (option_map_or list_of value []))) (each_with_inner (tables_of seen (Tables outer limit) value))
  pick_inner seen {presence} {limit} {value = None} right all = nothing
  pick_inner seen {presence} {limit} {value = Some (array items)} right all = pick_in_listed seen 0 (in_list items) right.fits.typed all
  pick_inner seen {presence} {limit} {value = Some _} right all = absurd (false≢true right.fits.typed)

-- the tables of lists of lists are those of each, one after the other
pub flat_map-flat_map : {X Y Z : Type 0} (g : Y → List Z) (f : X → List Y) (xs : List X) → flat_map g (flat_map f xs) ≡ flat_map (λ x. flat_map g (f x)) xs
flat_map-flat_map g f [] = refl
flat_map-flat_map g f (x ∷ xs) = flat_map-append g (f x) (flat_map f xs) ∙ ap (λ rest. flat_map g (f x) ++ rest) (flat_map-flat_map g f xs)
