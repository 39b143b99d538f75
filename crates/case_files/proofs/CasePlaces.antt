-- All tables of a case file have its place.
use Rattle.std.proofs.Common.{◌≡◌, ℕ, ◌+◌, List, [], ◌∷◌, ◌++◌, flat_map, Option, Some, refl, ap, ◌∙◌, subst}
use Rattle.std.specs.List.{AllByRecursion}
use Rattle.toml.specs.Data.{Data, table, Members}
use Rattle.cpl_tables.specs.declared.kinds.TableKind.{TableKind}
use Rattle.cpl_tables.specs.declared.places.Place.{Place}
use Rattle.cpl_tables.specs.declared.places.Place.TheVariants.{Case}
use Rattle.cpl_tables.specs.declared.shapes.Shape.{Shape}
use Rattle.cpl_tables.specs.declared.shapes.Shape.TheVariants.{Tables, Table}
use Rattle.cpl_tables.specs.Keys.{keys_of}
use Rattle.cpl_tables.specs.Places.{place_in, number_at}
use Rattle.cpl_tables.specs.Values.{list_of}
use Rattle.cpl_rules.specs.declared.rules.Refusal.{Refusal}
use Rattle.cpl_rules.specs.Seen.{Seen, value_at}
use Rattle.cpl_rules.specs.SeenTables.{tables_listed, tables_of, tables_under, tables_in, each_with_inner, all_tables, case_top}
use Rattle.cpl_rules.specs.Refused.{IsRefused}

-- what holds of each item of some lists

both : {X : Type 0} (P : X → Type 0) (xs ys : List X) → AllByRecursion P xs → AllByRecursion P ys → AllByRecursion P (xs ++ ys)
both P [] ys all more = more
both P (x ∷ xs) ys all more = (all.0, both P xs ys all.1 more)

each_of : {X Y : Type 0} (P : Y → Type 0) (f : X → List Y) (xs : List X) → ((x : X) → AllByRecursion P (f x)) → AllByRecursion P (flat_map f xs)
each_of P f [] each = tt
each_of P f (x ∷ xs) each = both P (f x) (flat_map f xs) (each x) (each_of P f xs each)

one_of : {X : Type 0} (P : X → Type 0) (before : List X) (x : X) (after : List X) → AllByRecursion P (before ++ x ∷ after) → P x
one_of P [] x after all = all.0
one_of P (y ∷ before) x after all = one_of P before x after all.1

module _ (number : ℕ) where
  abbrev IsOfCase : Seen → Type 0
  IsOfCase seen = seen.place ≡ Case number

  in_case : (place : Place) (kind : TableKind) (n : ℕ) → place ≡ Case number → place_in place kind n ≡ Case number
  in_case place kind n is = ap (λ p. place_in p kind n) is

  listed : (seen : Seen) (kind : TableKind) (index : ℕ) (items : List Data) → IsOfCase seen → AllByRecursion IsOfCase (tables_listed seen kind index items)
  listed seen kind index [] is = tt
  listed seen kind index (table tree ∷ items) is = (in_case seen.place kind (number_at index) is, listed seen kind (index + 1) items is)
  listed seen kind index (_ ∷ items) is = listed seen kind (index + 1) items is

  of_value : (seen : Seen) (shape : Shape) (value : Option Data) → IsOfCase seen → AllByRecursion IsOfCase (tables_of seen shape value)
  of_value seen (Tables kind limit) (Some value) is = listed seen kind 0 (list_of value) is
  of_value seen (Table kind) (Some (table tree)) is = (in_case seen.place kind 1 is, tt)
  of_value seen _ _ is = tt

  inside : (seen : Seen) → IsOfCase seen → AllByRecursion IsOfCase (tables_in seen)
  inside seen is = each_of IsOfCase (tables_under seen) (keys_of seen.kind) (λ key. of_value seen key.shape (value_at seen key) is)

  with_inner : (tables : List Seen) → AllByRecursion IsOfCase tables → AllByRecursion IsOfCase (each_with_inner tables)
  with_inner [] all = tt
  with_inner (seen ∷ tables) all = (all.0, both IsOfCase (tables_in seen) (each_with_inner tables) (inside seen all.0) (with_inner tables all.1))

  -- a refusal for a rule on tables tells the place of the file
  pub refused_at_case : (tree : Members) (refusal : Refusal) → IsRefused (case_top number tree) refusal → refusal.place ≡ Case number
  refused_at_case tree refusal told =
      let top = case_top number tree in
      let place = told.first.place in
      let all : AllByRecursion IsOfCase (all_tables top) = (refl, with_inner (tables_in top) (inside top refl)) in
      let split = subst (λ (tables : List Seen). AllByRecursion IsOfCase tables) place.stands all in
      ap (λ r. r.place) told.told ∙ one_of IsOfCase place.before told.at place.after split
