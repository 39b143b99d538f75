-- Names by their numbers: the places of the tables that have them.
use Rattle.std.proofs.Common.{◌≡◌, ℕ, zero, suc, ◌<◌, Bool, true, false, not, ◌&&◌, ◌||◌, nat_eq, List, [], ◌∷◌, length, map, find, position, Option, Some, All, refl, ap, sym, ◌∙◌}
use Rattle.std.specs.Prelude.{is_some, unwrap_or, slice_get}
use Rattle.std.specs.List.{list_any}
use Rattle.std.specs.Str.{bytes_eq}
use Rattle.std.proofs.lemmas.Bool.{eqb-true, eq-eqb, false≢true, not-true}
use Rattle.std.proofs.lemmas.Option.{slice_get_within}
use Rattle.std.proofs.lemmas.List.Elements.{All-head, All-tail}
use Rattle.cpl_tables.specs.Values.{are_distinct_texts}
use Rattle.cpl_plan.specs.PlanWords.{is_among, are_distinct}
use Rattle.config_laws.proofs.Truths.{both, some_there, same_text, text_same}
use Rattle.scheme_parts.proofs.Tables.{same_some, none_some, same_bool, found_passes, found_place, found_by}

abbrev pub has_name : {X : Type 0} → (X → List ℕ) → List ℕ → X → Bool
has_name name_of name x = bytes_eq (name_of x) name

-- the place of the table of a name, 0 where there is none
abbrev pub number : {X : Type 0} → (X → List ℕ) → List X → List ℕ → ℕ
number name_of tables name = unwrap_or (position (λ table. bytes_eq (name_of table) name) tables) 0

-- the table of a name stands at its number
pub record IsAt {X : Type 0} (name_of : X → List ℕ) (tables : List X) (name : List ℕ) (table : X) : Type 0 where
  pub at : slice_get tables (number name_of tables name) ≡ Some table
  pub named : name_of table ≡ name

pub record HasTable {X : Type 0} (name_of : X → List ℕ) (tables : List X) (name : List ℕ) : Type 0 where
  pub table : X
  pub is_at : IsAt name_of tables name table

module _ {X : Type 0} (name_of : X → List ℕ) (tables : List X) where
  pub table_at : (name : List ℕ) (table : X) → find (has_name name_of name) tables ≡ Some table → IsAt name_of tables name table
  table_at name table is =
      let place = found_place (has_name name_of name) tables table is in
      record {
        at = ap (λ (o : Option ℕ). slice_get tables (unwrap_or o 0)) place.1 ∙ place.2;
        named = same_text (name_of table) name (found_passes (has_name name_of name) tables table is);
      }

  pub has_table : (name : List ℕ) → is_some (find (has_name name_of name) tables) ≡ true → HasTable name_of tables name
  has_table name there =
      let found = some_there (find (has_name name_of name) tables) there in
      record { table = found.0; is_at = table_at name found.0 found.1 }

  pub have_tables : (names : List (List ℕ)) → All (λ name. is_some (find (has_name name_of name) tables) ≡ true) names → All (HasTable name_of tables) names
  have_tables names there k d within = has_table _ (there k d within)

  pub within : (name : List ℕ) → HasTable name_of tables name → number name_of tables name < length tables
  within name has = slice_get_within tables (number name_of tables name) has.table has.is_at.at

  -- names of one number are the same
  pub same_name : (one other : List ℕ) → HasTable name_of tables one → HasTable name_of tables other → number name_of tables one ≡ number name_of tables other → one ≡ other
  same_name one other has has' same =
      let tables_same : has.table ≡ has'.table = same_some (sym has.is_at.at ∙ (ap (slice_get tables) same ∙ has'.is_at.at)) in
      sym has.is_at.named ∙ (ap name_of tables_same ∙ has'.is_at.named)

  pub same_test : (one other : List ℕ) → HasTable name_of tables one → HasTable name_of tables other → nat_eq (number name_of tables one) (number name_of tables other) ≡ bytes_eq one other
  same_test one other has has' =
      same_bool (nat_eq (number name_of tables one) (number name_of tables other)) (bytes_eq one other)
      (λ e. text_same one other (same_name one other has has' (eqb-true (number name_of tables one) (number name_of tables other) e)))
      (λ e. eq-eqb (number name_of tables one) (number name_of tables other) (ap (number name_of tables) (same_text one other e)))

  pub turned_test : (one other : List ℕ) → HasTable name_of tables one → HasTable name_of tables other → nat_eq (number name_of tables one) (number name_of tables other) ≡ bytes_eq other one
  turned_test one other has has' =
      same_bool (nat_eq (number name_of tables one) (number name_of tables other)) (bytes_eq other one)
      (λ e. text_same other one (sym (same_name one other has has' (eqb-true (number name_of tables one) (number name_of tables other) e))))
      (λ e. eq-eqb (number name_of tables one) (number name_of tables other) (ap (number name_of tables) (sym (same_text other one e))))

  -- a number is among those of some names where its name is among them
  pub among_same : (name : List ℕ) (names : List (List ℕ)) → HasTable name_of tables name → All (HasTable name_of tables) names
      → is_among (number name_of tables name) (map (number name_of tables) names) ≡ list_any (bytes_eq name) names
  among_same name [] has all = refl
  among_same name (other ∷ names) has all =
      let here = turned_test other name (All-head (HasTable name_of tables) other names all) has in
      let later = among_same name names has (All-tail (HasTable name_of tables) other names all) in
      ap (λ b. b || is_among (number name_of tables name) (map (number name_of tables) names)) here ∙ ap (λ b. bytes_eq name other || b) later

  any_same : (name : List ℕ) (names : List (List ℕ)) → HasTable name_of tables name → All (HasTable name_of tables) names
      → list_any (nat_eq (number name_of tables name)) (map (number name_of tables) names) ≡ list_any (bytes_eq name) names
  any_same name [] has all = refl
  any_same name (other ∷ names) has all =
      let here = same_test name other has (All-head (HasTable name_of tables) other names all) in
      let later = any_same name names has (All-tail (HasTable name_of tables) other names all) in
      ap (λ b. b || list_any (nat_eq (number name_of tables name)) (map (number name_of tables) names)) here ∙ ap (λ b. bytes_eq name other || b) later

  -- numbers are distinct where names are
  pub distinct_same : (names : List (List ℕ)) → All (HasTable name_of tables) names → are_distinct nat_eq (map (number name_of tables) names) ≡ are_distinct_texts names
  distinct_same [] all = refl
  distinct_same (name ∷ names) all =
      let rest : All (HasTable name_of tables) names = All-tail (HasTable name_of tables) name names all in
      let here = any_same name names (All-head (HasTable name_of tables) name names all) rest in
      ap (λ b. not b && are_distinct nat_eq (map (number name_of tables) names)) here ∙ ap (λ b. not (list_any (bytes_eq name) names) && b) (distinct_same names rest)

-- a table of the list has a name that is not that of another
any_name : {X : Type 0} (name_of : X → List ℕ) (xs : List X) (n : ℕ) (x : X) (name : List ℕ) → slice_get xs n ≡ Some x → name ≡ name_of x → list_any (bytes_eq name) (map name_of xs) ≡ true
any_name name_of [] n x name is same = absurd (none_some is)
any_name {X} name_of (y ∷ xs) zero x name is same =
    ap (λ b. b || list_any (bytes_eq name) (map name_of xs)) (text_same name (name_of y) (same ∙ ap name_of (sym (same_some is))))
any_name name_of (y ∷ xs) (suc n) x name is same =
    elim (bytes_eq name (name_of y)) as (λ b. (b || list_any (bytes_eq name) (map name_of xs)) ≡ true) [ true ↦ refl | false ↦ any_name name_of xs n x name is same ]

pub one_place : {X : Type 0} (name_of : X → List ℕ) (xs : List X) (n m : ℕ) (x y : X) → are_distinct_texts (map name_of xs) ≡ true → slice_get xs n ≡ Some x → slice_get xs m ≡ Some y → name_of x ≡ name_of y → n ≡ m
one_place name_of [] n m x y once is is' same = absurd (none_some is)
one_place name_of (z ∷ xs) zero zero x y once is is' same = refl
one_place name_of (z ∷ xs) zero (suc m) x y once is is' same =
    let parts = both (not (list_any (bytes_eq (name_of z)) (map name_of xs))) (are_distinct_texts (map name_of xs)) once in
    let none : list_any (bytes_eq (name_of z)) (map name_of xs) ≡ false = not-true (list_any (bytes_eq (name_of z)) (map name_of xs)) parts.0 in
    absurd (false≢true (sym none ∙ any_name name_of xs m y (name_of z) is' (ap name_of (same_some is) ∙ same)))
one_place name_of (z ∷ xs) (suc n) zero x y once is is' same =
    let parts = both (not (list_any (bytes_eq (name_of z)) (map name_of xs))) (are_distinct_texts (map name_of xs)) once in
    let none : list_any (bytes_eq (name_of z)) (map name_of xs) ≡ false = not-true (list_any (bytes_eq (name_of z)) (map name_of xs)) parts.0 in
    absurd (false≢true (sym none ∙ any_name name_of xs n x (name_of z) is (ap name_of (same_some is') ∙ sym same)))
one_place name_of (z ∷ xs) (suc n) (suc m) x y once is is' same =
    ap suc (one_place name_of xs n m x y (both (not (list_any (bytes_eq (name_of z)) (map name_of xs))) (are_distinct_texts (map name_of xs)) once).1 is is' same)

-- where no name stands twice, a table's place is the number of its name
pub place_is_number : {X : Type 0} (name_of : X → List ℕ) (tables : List X) (n : ℕ) (table : X) → are_distinct_texts (map name_of tables) ≡ true → slice_get tables n ≡ Some table
    → number name_of tables (name_of table) ≡ n
place_is_number name_of tables n table once is =
    let found = found_by (has_name name_of (name_of table)) tables n table is (text_same (name_of table) (name_of table) refl) in
    let at = table_at name_of tables (name_of table) found.0 found.1 in
    one_place name_of tables (number name_of tables (name_of table)) n found.0 table once at.at is at.named

-- and it is the table of its name
pub table_of_itself : {X : Type 0} (name_of : X → List ℕ) (tables : List X) (n : ℕ) (table : X) → slice_get tables n ≡ Some table → HasTable name_of tables (name_of table)
table_of_itself name_of tables n table is =
    let found = found_by (has_name name_of (name_of table)) tables n table is (text_same (name_of table) (name_of table) refl) in
    record { table = found.0; is_at = table_at name_of tables (name_of table) found.0 found.1 }
