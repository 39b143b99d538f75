-- The places of a configuration's tables rise in the order of places.
use Rattle.std.proofs.Common.{◌≡◌, ℕ, suc, ◌+◌, ◌-◌, ◌^◌, ◌<◌, ◌≤◌, List, [], ◌∷◌, ◌++◌, map, length, flat_map, codes, Option, Some, None, inl, inr, refl, sym, ap, ◌∙◌, subst, append_assoc, arith}
use Rattle.std.specs.List.{AllByRecursion}
use Rattle.std.specs.Option.{option_map_or}
use Rattle.std.proofs.Math.Nat.{min-eq_left, eq-or-lt_of_le}
use Rattle.std.proofs.lemmas.List.Concat.{flat_map-append}
use Rattle.toml.specs.Data.{Data, table, Members, get_member}
use Rattle.cpl_tables.specs.declared.kinds.TableKind.{TableKind}
use Rattle.cpl_tables.specs.declared.kinds.TableKind.TheVariants.{Config, Participant, Receives, Write, Read, Map, Watch, Action, Scheme, Exchange, Measure, Acceleration}
use Rattle.cpl_tables.specs.declared.kinds.Format.{Format}
use Rattle.cpl_tables.specs.declared.kinds.Format.TheVariants.{One, Two}
use Rattle.cpl_tables.specs.declared.places.Place.TheVariants.{Config as ConfigPlace, Participant as ParticipantPlace, Scheme as SchemePlace}
use Rattle.cpl_tables.specs.declared.shapes.Limit.{Limit}
use Rattle.cpl_tables.specs.declared.shapes.Shape.{Shape}
use Rattle.cpl_tables.specs.declared.shapes.Shape.TheVariants.{Tables, Table}
use Rattle.cpl_tables.specs.KeyRule.{KeyRule}
use Rattle.cpl_tables.specs.Keys.{keys_of}
use Rattle.cpl_tables.specs.Places.{place_in, number_at}
use Rattle.cpl_tables.specs.PlaceOrder.{way_to, IsEarlier, AreRising}
use Rattle.cpl_tables.specs.Values.{list_of}
use Rattle.cpl_tables.proofs.PlaceOrders.{earlier-after, earlier-further, IsBetween, between-lower, between-both, rising-first}
use Rattle.cpl_rules.specs.Seen.{Seen, value_at}
use Rattle.cpl_rules.specs.SeenTables.{table_in, tables_listed, tables_of, tables_under, tables_in, each_with_inner, all_tables, config_top, format_of}
use Rattle.cpl_rules.specs.FewItems.{HasFewItems}

abbrev way : Seen → List ℕ
way seen = way_to seen.place

split_all : {X : Type 0} (P : X → Type 0) (xs ys : List X) → AllByRecursion P (xs ++ ys) → AllByRecursion P xs × AllByRecursion P ys
split_all P [] ys all = (tt, all)
split_all P (x ∷ xs) ys all = let rest = split_all P xs ys all.1 in ((all.0, rest.0), rest.1)

-- what holds of each with those behind it holds of each
outer_all : {X : Type 0} (P : X → Type 0) (f : X → List X) (xs : List X) → AllByRecursion P (flat_map (λ x. x ∷ f x) xs) → AllByRecursion P xs
outer_all P f [] all = tt
outer_all P f (x ∷ xs) all = (all.0, outer_all P f xs (split_all P (f x) (flat_map (λ y. y ∷ f y) xs) all.1).1)

always : {X : Type 0} (xs : List X) → AllByRecursion (λ _. Unit {0}) xs
always [] = tt
always (x ∷ xs) = (tt, always xs)

-- The tables under the keys of a table, each followed by what is inside it. Behind a table at a way, and all inside it, lies the way with 8 at its end.

module _ (inside : Seen → List Seen) (P : Seen → Type 0) where
  abbrev with_inside : List Seen → List Seen
  with_inside tables = flat_map (λ seen. seen ∷ inside seen) tables

  -- what is inside a table lies on its way
  abbrev Holds : Seen → TableKind → Type 0
  Holds seen kind = (n : ℕ) (tree : Members) → P (table_in seen kind n tree) → IsBetween way (way (table_in seen kind n tree)) (way (table_in seen kind n tree) ++ 8 ∷ []) (inside (table_in seen kind n tree))

  -- the kind's list is the one with this number
  abbrev Leads : Seen → TableKind → ℕ → ℕ → Type 0
  Leads seen kind slot n = way_to (place_in seen.place kind n) ≡ way seen ++ slot ∷ n ∷ []

  one_item : (seen : Seen) (kind : TableKind) (slot index n : ℕ) (tree : Members) (high : List ℕ) (rest : List Seen) → Leads seen kind slot n → Holds seen kind → index < n → P (table_in seen kind n tree)
      → IsBetween way (way seen ++ slot ∷ n ∷ 8 ∷ []) high rest
      → IsBetween way (way seen ++ slot ∷ index ∷ 8 ∷ []) high (table_in seen kind n tree ∷ (inside (table_in seen kind n tree) ++ rest))
  one_item seen kind slot index n tree high rest leads holds less fit behind =
      let seen_in = table_in seen kind n tree in
      let on = way seen ++ slot ∷ n ∷ [] in
      let step : IsEarlier (way seen ++ slot ∷ index ∷ 8 ∷ []) on = earlier-after (way seen) (slot ∷ index ∷ 8 ∷ []) (slot ∷ n ∷ []) (inr (refl, inl less)) in
      let end : way seen ++ slot ∷ n ∷ 8 ∷ [] ≡ way seen_in ++ 8 ∷ [] = sym (append_assoc (way seen) (slot ∷ n ∷ []) (8 ∷ [])) ∙ ap (λ w. w ++ 8 ∷ []) (sym leads) in (
        subst (λ w. IsEarlier (way seen ++ slot ∷ index ∷ 8 ∷ []) w) (sym leads) step,
        between-both way (way seen_in) (way seen_in ++ 8 ∷ []) high (inside seen_in) rest (holds n tree fit) (subst (λ w. IsBetween way w high rest) end behind),
      )

  listed : (seen : Seen) (kind : TableKind) (slot : ℕ) → ((n : ℕ) → Leads seen kind slot n) → Holds seen kind → (index : ℕ) (items : List Data) → index + length items ≤ 2 ^ 32 - 1
      → AllByRecursion P (tables_listed seen kind index items)
      → IsBetween way (way seen ++ slot ∷ index ∷ 8 ∷ []) (way seen ++ suc slot ∷ []) (with_inside (tables_listed seen kind index items))
  listed seen kind slot leads holds index [] fits all = earlier-after (way seen) (slot ∷ index ∷ 8 ∷ []) (suc slot ∷ []) (inl (omega arith))
  listed seen kind slot leads holds index (table tree ∷ items) fits all =
      let high = way seen ++ suc slot ∷ [] in
      let rest = with_inside (tables_listed seen kind (index + 1) items) in
      let number : number_at index ≡ index + 1 = min-eq_left (omega arith) in
      let less : index < number_at index = subst (λ n. index < n) (sym number) (omega arith) in
      let behind = listed seen kind slot leads holds (index + 1) items (omega arith) all.1 in
      one_item seen kind slot index (number_at index) tree high rest (leads (number_at index)) holds less all.0
      (subst (λ n. IsBetween way (way seen ++ slot ∷ n ∷ 8 ∷ []) high rest) (sym number) behind)
  listed seen kind slot leads holds index (_ ∷ items) fits all =
      between-lower way (way seen ++ slot ∷ index ∷ 8 ∷ []) (way seen ++ slot ∷ (index + 1) ∷ 8 ∷ []) (way seen ++ suc slot ∷ []) (with_inside (tables_listed seen kind (index + 1) items))
      (earlier-after (way seen) (slot ∷ index ∷ 8 ∷ []) (slot ∷ (index + 1) ∷ 8 ∷ []) (inr (refl, inl (omega arith))))
      (listed seen kind slot leads holds (index + 1) items (omega arith) all)

  from_slot : (base : List ℕ) (from slot : ℕ) → from ≤ slot → IsEarlier (base ++ from ∷ []) (base ++ slot ∷ 0 ∷ 8 ∷ [])
  from_slot base from slot h = earlier-after base (from ∷ []) (slot ∷ 0 ∷ 8 ∷ []) (elim (eq-or-lt_of_le h) [
    | inl same ↦ inr (same, tt)
    | inr less ↦ inl less
  ])

  of_list : (seen : Seen) (kind : TableKind) (limit : Limit) (slot : ℕ) → ((n : ℕ) → Leads seen kind slot n) → Holds seen kind → (from : ℕ) → from ≤ slot → (value : Option Data)
      → length (option_map_or list_of value []) ≤ 2 ^ 32 - 1 → AllByRecursion P (tables_of seen (Tables kind limit) value)
      → IsBetween way (way seen ++ from ∷ []) (way seen ++ suc slot ∷ []) (with_inside (tables_of seen (Tables kind limit) value))
  of_list seen kind limit slot leads holds from h None few all = earlier-after (way seen) (from ∷ []) (suc slot ∷ []) (inl (omega arith))
  of_list seen kind limit slot leads holds from h (Some value) few all =
      between-lower way (way seen ++ from ∷ []) (way seen ++ slot ∷ 0 ∷ 8 ∷ []) (way seen ++ suc slot ∷ []) (with_inside (tables_listed seen kind 0 (list_of value)))
      (from_slot (way seen) from slot h)
      (listed seen kind slot leads holds 0 (list_of value) (omega arith) all)

  of_one : (seen : Seen) (kind : TableKind) (slot : ℕ) → Leads seen kind slot 1 → Holds seen kind → (from : ℕ) → from ≤ slot → (value : Option Data)
      → AllByRecursion P (tables_of seen (Table kind) value)
      → IsBetween way (way seen ++ from ∷ []) (way seen ++ suc slot ∷ []) (with_inside (tables_of seen (Table kind) value))
  of_one seen kind slot leads holds from h (Some (table tree)) all =
      let high = way seen ++ suc slot ∷ [] in
      between-lower way (way seen ++ from ∷ []) (way seen ++ slot ∷ 0 ∷ 8 ∷ []) high (with_inside (table_in seen kind 1 tree ∷ []))
      (from_slot (way seen) from slot h)
      (one_item seen kind slot 0 1 tree high [] leads holds (omega arith) all.0 (earlier-after (way seen) (slot ∷ 1 ∷ 8 ∷ []) (suc slot ∷ []) (inl (omega arith))))
  of_one seen kind slot leads holds from h (Some _) all = earlier-after (way seen) (from ∷ []) (suc slot ∷ []) (inl (omega arith))
  of_one seen kind slot leads holds from h None all = earlier-after (way seen) (from ∷ []) (suc slot ∷ []) (inl (omega arith))

  -- the lists of tables under the keys have rising numbers
  abbrev Step : Seen → ℕ → Shape → (ℕ → Type 0) → Type 0
  Step seen from (Tables kind _) rest = (slot : ℕ) × ((from ≤ slot) × (((n : ℕ) → Leads seen kind slot n) × (Holds seen kind × rest (suc slot))))
  Step seen from (Table kind) rest = (slot : ℕ) × ((from ≤ slot) × (Leads seen kind slot 1 × (Holds seen kind × rest (suc slot))))
  Step seen from _ rest = rest from

  abbrev DoRise : Seen → ℕ → List KeyRule → Type 0
  DoRise seen from [] = from < 8
  DoRise seen from (key ∷ keys) = Step seen from key.shape (λ next. DoRise seen next keys)

  at_shape : (seen : Seen) (from : ℕ) (shape : Shape) (value : Option Data) (rest : ℕ → Type 0) (more : List Seen)
      → ((next : ℕ) → rest next → IsBetween way (way seen ++ next ∷ []) (way seen ++ 8 ∷ []) (with_inside more))
      → Step seen from shape rest → length (option_map_or list_of value []) ≤ 2 ^ 32 - 1 → AllByRecursion P (tables_of seen shape value)
      → IsBetween way (way seen ++ from ∷ []) (way seen ++ 8 ∷ []) (with_inside (tables_of seen shape value ++ more))
  at_shape seen from (Tables kind limit) value rest more go step few all =
      let tables = tables_of seen (Tables kind limit) value in
      let slot = step.0 in
      let h = step.1.0 in
      let leads = step.1.1.0 in
      let holds = step.1.1.1.0 in
      let next = step.1.1.1.1 in
      subst (λ xs. IsBetween way (way seen ++ from ∷ []) (way seen ++ 8 ∷ []) xs) (sym (flat_map-append (λ seen. seen ∷ inside seen) tables more))
      (between-both way (way seen ++ from ∷ []) (way seen ++ suc slot ∷ []) (way seen ++ 8 ∷ []) (with_inside tables) (with_inside more)
      (of_list seen kind limit slot leads holds from h value few all) (go (suc slot) next))
  at_shape seen from (Table kind) value rest more go step few all =
      let tables = tables_of seen (Table kind) value in
      let slot = step.0 in
      let h = step.1.0 in
      let leads = step.1.1.0 in
      let holds = step.1.1.1.0 in
      let next = step.1.1.1.1 in
      subst (λ xs. IsBetween way (way seen ++ from ∷ []) (way seen ++ 8 ∷ []) xs) (sym (flat_map-append (λ seen. seen ∷ inside seen) tables more))
      (between-both way (way seen ++ from ∷ []) (way seen ++ suc slot ∷ []) (way seen ++ 8 ∷ []) (with_inside tables) (with_inside more)
      (of_one seen kind slot leads holds from h value all) (go (suc slot) next))
  at_shape seen from _ value rest more go step few all = go from step

  keys_between : (seen : Seen) (from : ℕ) (keys : List KeyRule) → DoRise seen from keys → AllByRecursion (λ key. length (option_map_or list_of (value_at seen key) []) ≤ 2 ^ 32 - 1) keys
      → AllByRecursion P (flat_map (tables_under seen) keys)
      → IsBetween way (way seen ++ from ∷ []) (way seen ++ 8 ∷ []) (with_inside (flat_map (tables_under seen) keys))
  keys_between seen from [] rises few all = earlier-after (way seen) (from ∷ []) (8 ∷ []) (inl rises)
  keys_between seen from (key ∷ keys) rises few all =
      let parts = split_all P (tables_under seen key) (flat_map (tables_under seen) keys) all in
      at_shape seen from key.shape (value_at seen key) (λ next. DoRise seen next keys) (flat_map (tables_under seen) keys)
      (λ next more. keys_between seen next keys more few.1 parts.1) rises few.0 parts.0

-- The tables in a participant's or a scheme's table, which have none inside

abbrev nothing : Seen → List Seen
nothing _ = []

abbrev Anything : Seen → Type 0
Anything _ = Unit {0}

alone : (tables : List Seen) → flat_map (λ seen. seen ∷ nothing seen) tables ≡ tables
alone [] = refl
alone (seen ∷ tables) = ap (λ rest. seen ∷ rest) (alone tables)

none_inside : (seen : Seen) (kind : TableKind) → Holds nothing Anything seen kind
none_inside seen kind n tree any = earlier-further (way (table_in seen kind n tree)) 8 []

inner_between : (seen : Seen) → DoRise nothing Anything seen 1 (keys_of seen.kind) → HasFewItems seen → IsBetween way (way seen) (way seen ++ 8 ∷ []) (tables_in seen)
inner_between seen rises few =
    let all = keys_between nothing Anything seen 1 (keys_of seen.kind) rises few (always (tables_in seen)) in
    between-lower way (way seen) (way seen ++ 1 ∷ []) (way seen ++ 8 ∷ []) (tables_in seen) (earlier-further (way seen) 1 [])
    (subst (λ xs. IsBetween way (way seen ++ 1 ∷ []) (way seen ++ 8 ∷ []) xs) (alone (tables_in seen)) all)

abbrev participant_in : Format → ℕ → Members → Seen
participant_in format n tree = record { place = ParticipantPlace n; kind = Participant format; members = tree }

participant_rises : (format : Format) (n : ℕ) (tree : Members) → DoRise nothing Anything (participant_in format n tree) 1 (keys_of (Participant format))
participant_rises One n tree =
    let seen = participant_in One n tree in
    (1, (omega arith, ((λ _. refl), (none_inside seen Receives, (2, (omega arith, ((λ _. refl), (none_inside seen Write, (3, (omega arith, ((λ _. refl), (none_inside seen Read, (4, (omega arith, ((λ _. refl), (none_inside seen (Map One), (5, (omega arith, ((λ _. refl), (none_inside seen Watch, omega arith))))))))))))))))))))
participant_rises Two n tree =
    let seen = participant_in Two n tree in
    (1, (omega arith, ((λ _. refl), (none_inside seen Receives, (2, (omega arith, ((λ _. refl), (none_inside seen Write, (3, (omega arith, ((λ _. refl), (none_inside seen Read, (4, (omega arith, ((λ _. refl), (none_inside seen (Map Two), (5, (omega arith, ((λ _. refl), (none_inside seen Watch, (6, (omega arith, ((λ _. refl), (none_inside seen Action, omega arith))))))))))))))))))))))))

abbrev scheme_in : ℕ → Members → Seen
scheme_in n tree = record { place = SchemePlace n; kind = Scheme; members = tree }

scheme_rises : (n : ℕ) (tree : Members) → DoRise nothing Anything (scheme_in n tree) 1 (keys_of Scheme)
scheme_rises n tree =
    let seen = scheme_in n tree in
    (1, (omega arith, ((λ _. refl), (none_inside seen Exchange, (2, (omega arith, ((λ _. refl), (none_inside seen Measure, (3, (omega arith, (refl, (none_inside seen Acceleration, omega arith))))))))))))

-- The whole file

abbrev config_in : Format → Members → Seen
config_in format tree = record { place = ConfigPlace; kind = Config format; members = tree }

config_rises : (format : Format) (tree : Members) → DoRise tables_in HasFewItems (config_in format tree) 1 (keys_of (Config format))
config_rises One tree =
    (1, (omega arith, ((λ _. refl), ((λ n inner few. earlier-further (1 ∷ n ∷ []) 8 []), (2, (omega arith, ((λ _. refl), ((λ n inner few. earlier-further (2 ∷ n ∷ []) 8 []), (3, (omega arith, ((λ _. refl), ((λ n inner few. inner_between (participant_in One n inner) (participant_rises One n inner) few), (4, (omega arith, ((λ _. refl), ((λ n inner few. inner_between (scheme_in n inner) (scheme_rises n inner) few), omega arith))))))))))))))))
config_rises Two tree =
    (1, (omega arith, ((λ _. refl), ((λ n inner few. earlier-further (1 ∷ n ∷ []) 8 []), (2, (omega arith, ((λ _. refl), ((λ n inner few. earlier-further (2 ∷ n ∷ []) 8 []), (3, (omega arith, ((λ _. refl), ((λ n inner few. inner_between (participant_in Two n inner) (participant_rises Two n inner) few), (4, (omega arith, ((λ _. refl), ((λ n inner few. inner_between (scheme_in n inner) (scheme_rises n inner) few), omega arith))))))))))))))))

pub rising_places : (tree : Members) → AllByRecursion HasFewItems (all_tables (config_top tree)) → AreRising (map (λ seen. seen.place) (all_tables (config_top tree)))
rising_places tree few =
    let top = config_top tree in
    let tables = tables_in top in
    let lies = keys_between tables_in HasFewItems top 1 (keys_of top.kind) (config_rises (format_of (get_member (codes "format") tree)) tree) few.0 (outer_all HasFewItems tables_in tables few.1) in
    rising-first (λ seen. seen.place) top (8 ∷ []) (each_with_inner tables) (between-lower way [] (1 ∷ []) (8 ∷ []) (each_with_inner tables) tt lies)
