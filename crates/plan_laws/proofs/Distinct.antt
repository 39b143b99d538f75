-- Lists of which no two items are the same, and names that tell numbers apart.
use Rattle.std.proofs.Common.{◌≡◌, ℕ, zero, suc, ◌+◌, ◌<◌, ◌≤◌, inl, inr, Bool, true, false, not, ◌||◌, ◌&&◌, nat_eq, cond, List, [], ◌∷◌, ◌++◌, length, map, get_or, Some, Contains, refl, ap, sym, subst, ◌∙◌, arith}
use Rattle.std.specs.Prelude.{filter, flat_map, find, slice_get}
use Rattle.std.specs.List.{list_any, range_with_len}
use Rattle.std.specs.Str.{bytes_eq}
use Rattle.std.proofs.lemmas.Bool.{and_parts, and_from, not-true, or_parts, false≢true, false_from_ne_true, ne_eqb, eq-eqb}
use Rattle.std.proofs.lemmas.Bool.Decides.{Decides-eqb, Decides-like, same_from_decides}
use Rattle.std.proofs.lemmas.List.Folds.{list_any-append}
use Rattle.std.proofs.lemmas.Slice.Eq.{bytes_eq-Decides}
use Rattle.plan_order.proofs.Loops.{head_in, tail_in, in_cons}
use Rattle.cpl_tables.specs.Values.{are_distinct_texts}
use Rattle.cpl_plan.specs.PlanWords.{are_distinct, is_among}
use Rattle.cpl_plan.proofs.Readings.{filter_in}
use Rattle.config_laws.proofs.Members.{any_at}
use Rattle.config_laws.proofs.Truths.{text_same}
use Rattle.plan_laws.proofs.Lists.{in_at, any_mapped, any_same}

none_is : {X : Type 0} (p : X → Bool) (xs : List X) → list_any p xs ≡ false → (x : X) → Contains xs x → p x ≡ false
none_is p xs none x inside = false_from_ne_true (p x) (λ is. false≢true (sym none ∙ any_at p xs x inside is))

-- of two places the items are not the same
pub apart_at : {X : Type 0} (same : X → X → Bool) (xs : List X) → are_distinct same xs ≡ true → (i j : ℕ) (x y : X) → i < j → slice_get xs i ≡ Some x → slice_get xs j ≡ Some y → same x y ≡ false
apart_at same [] distinct i j x y less one other = cc
apart_at same (z ∷ xs) distinct zero zero x y less one other = absurd (omega (arith, less))
apart_at {X} same (z ∷ xs) distinct zero (suc j) x y less one other =
    let parts = and_parts (not (list_any (same z) xs)) (are_distinct same xs) distinct in
    let is : z ≡ x = cc in
    subst (λ (w : X). same w y ≡ false) is (none_is (same z) xs (not-true (list_any (same z) xs) parts.0) y (in_at xs j y other))
apart_at same (z ∷ xs) distinct (suc i) zero x y less one other = absurd (omega (arith, less))
apart_at same (z ∷ xs) distinct (suc i) (suc j) x y less one other =
    apart_at same xs (and_parts (not (list_any (same z) xs)) (are_distinct same xs) distinct).1 i j x y (omega (arith, less)) one other

any_is_not : {X : Type 0} (p : X → Bool) (xs : List X) → ((x : X) → Contains xs x → p x ≡ false) → list_any p xs ≡ false
any_is_not p [] none = refl
any_is_not p (x ∷ xs) none = ap (λ b. b || list_any p xs) (none x (head_in x xs)) ∙ any_is_not p xs (λ y inside. none y (tail_in x xs y inside))

-- what keeps items apart keeps a list distinct
pub distinct_mapped : {X Y : Type 0} (same : X → X → Bool) (same' : Y → Y → Bool) (f : X → Y) (xs : List X) → ((x y : X) → Contains xs x → Contains xs y → same x y ≡ false → same' (f x) (f y) ≡ false)
    → are_distinct same xs ≡ true → are_distinct same' (map f xs) ≡ true
distinct_mapped same same' f [] keeps distinct = refl
distinct_mapped {X} {Y} same same' f (x ∷ xs) keeps distinct =
    let parts = and_parts (not (list_any (same x) xs)) (are_distinct same xs) distinct in
    let none : list_any (same' (f x)) (map f xs) ≡ false = mapped_none x xs (head_in x xs) (λ y inside. tail_in x xs y inside) keeps (not-true (list_any (same x) xs) parts.0) in
    and_from (not (list_any (same' (f x)) (map f xs))) (are_distinct same' (map f xs)) (ap not none)
    (distinct_mapped same same' f xs (λ y z one other. keeps y z (tail_in x xs y one) (tail_in x xs z other)) parts.1)
  where
    mapped_none : (x : X) (ys : List X) → Contains (x ∷ xs) x → ((y : X) → Contains ys y → Contains (x ∷ xs) y)
        → ((x' y : X) → Contains (x ∷ xs) x' → Contains (x ∷ xs) y → same x' y ≡ false → same' (f x') (f y) ≡ false)
        → list_any (same x) ys ≡ false → list_any (same' (f x)) (map f ys) ≡ false
    mapped_none x [] own there keeps none = refl
    mapped_none x (y ∷ ys) own there keeps none =
        let parts = or_parts (same x y) (list_any (same x) ys) none in
        ap (λ b. b || list_any (same' (f x)) (map f ys)) (keeps x y own (there y (head_in y ys)) parts.0)
        ∙ mapped_none x ys own (λ z inside. there z (tail_in y ys z inside)) keeps parts.1

pub distinct_texts : (texts : List (List ℕ)) → are_distinct_texts texts ≡ are_distinct bytes_eq texts
distinct_texts [] = refl
distinct_texts (text ∷ texts) = ap (λ b. not (list_any (bytes_eq text) texts) && b) (distinct_texts texts)

-- what is kept of a distinct list is distinct
distinct_left : {X : Type 0} (same : X → X → Bool) (xs ys : List X) → are_distinct same (xs ++ ys) ≡ true → are_distinct same xs ≡ true
distinct_left same [] ys distinct = refl
distinct_left same (x ∷ xs) ys distinct =
    let parts = and_parts (not (list_any (same x) (xs ++ ys))) (are_distinct same (xs ++ ys)) distinct in
    let none = or_parts (list_any (same x) xs) (list_any (same x) ys) (sym (list_any-append (same x) xs ys) ∙ not-true (list_any (same x) (xs ++ ys)) parts.0) in
    and_from (not (list_any (same x) xs)) (are_distinct same xs) (ap not none.0) (distinct_left same xs ys parts.1)

distinct_right : {X : Type 0} (same : X → X → Bool) (xs ys : List X) → are_distinct same (xs ++ ys) ≡ true → are_distinct same ys ≡ true
distinct_right same [] ys distinct = distinct
distinct_right same (x ∷ xs) ys distinct =
    distinct_right same xs ys (and_parts (not (list_any (same x) (xs ++ ys))) (are_distinct same (xs ++ ys)) distinct).1

pub distinct_part : {X Y : Type 0} (same : Y → Y → Bool) (f : X → List Y) (xs : List X) → are_distinct same (flat_map f xs) ≡ true → (n : ℕ) (x : X) → slice_get xs n ≡ Some x → are_distinct same (f x) ≡ true
distinct_part same f [] distinct n x is = cc
distinct_part {X} same f (y ∷ xs) distinct zero x is =
    let own : y ≡ x = cc in subst (λ (z : X). are_distinct same (f z) ≡ true) own (distinct_left same (f y) (flat_map f xs) distinct)
distinct_part same f (y ∷ xs) distinct (suc n) x is = distinct_part same f xs (distinct_right same (f y) (flat_map f xs) distinct) n x is

-- items that differ in what they are told apart by
pub same_by : {X : Type 0} (key : X → ℕ) (xs : List X) → are_distinct nat_eq (map key xs) ≡ true → (x y : X) → Contains xs x → Contains xs y → key x ≡ key y → x ≡ y
same_by key [] distinct x y one other same = absurd (omega (arith, one.1))
same_by {X} key (z ∷ xs) distinct x y one other same =
    let parts = and_parts (not (list_any (nat_eq (key z)) (map key xs))) (are_distinct nat_eq (map key xs)) distinct in
    let none : list_any (nat_eq (key z)) (map key xs) ≡ false = not-true (list_any (nat_eq (key z)) (map key xs)) parts.0 in
    elim (in_cons z xs x one) [
      | inl x_here ↦ elim (in_cons z xs y other) [
        | inl y_here ↦ sym x_here ∙ y_here
        | inr y_later ↦ absurd (met (key z) y xs y_later (ap key x_here ∙ same) none)
      ]
      | inr x_later ↦ elim (in_cons z xs y other) [
        | inl y_here ↦ absurd (met (key z) x xs x_later (ap key y_here ∙ sym same) none)
        | inr y_later ↦ same_by key xs parts.1 x y x_later y_later same
      ]
    ]
  where
    met : (k : ℕ) (y : X) (ys : List X) → Contains ys y → k ≡ key y → list_any (nat_eq k) (map key ys) ≡ false → ⊥
    met k y [] inside is none = omega (arith, inside.1)
    met k y (w ∷ ys) inside is none =
        let parts = or_parts (nat_eq k (key w)) (list_any (nat_eq k) (map key ys)) none in
        elim (in_cons w ys y inside) [
          | inl here ↦ false≢true (sym parts.0 ∙ eq-eqb k (key w) (is ∙ ap key (sym here)))
          | inr later ↦ met k y ys later is parts.1
        ]

-- distinct names

not_later : (name : List ℕ) (names : List (List ℕ)) (b : ℕ) → b < length names → name ≡ get_or names b [] → not (list_any (bytes_eq name) names) ≡ true → ⊥
not_later name [] b within same none = omega (arith, within)
not_later name (other ∷ names) zero within same none =
    let is : (bytes_eq name other || list_any (bytes_eq name) names) ≡ true = ap (λ b. b || list_any (bytes_eq name) names) (text_same name other same) in
    false≢true (sym (not-true (list_any (bytes_eq name) (other ∷ names)) none) ∙ is)
not_later name (other ∷ names) (suc b) within same none =
    let parts = or_parts (bytes_eq name other) (list_any (bytes_eq name) names) (not-true (list_any (bytes_eq name) (other ∷ names)) none) in
    not_later name names b (omega (arith, within)) same (ap not parts.1)

pub same_place : (names : List (List ℕ)) → are_distinct bytes_eq names ≡ true → (a b : ℕ) → a < length names → b < length names → get_or names a [] ≡ get_or names b [] → a ≡ b
same_place [] distinct a b one other same = absurd (omega (arith, one))
same_place (name ∷ names) distinct zero zero one other same = refl
same_place (name ∷ names) distinct zero (suc b) one other same =
    absurd (not_later name names b (omega (arith, other)) same (and_parts (not (list_any (bytes_eq name) names)) (are_distinct bytes_eq names) distinct).0)
same_place (name ∷ names) distinct (suc a) zero one other same =
    absurd (not_later name names a (omega (arith, one)) (sym same) (and_parts (not (list_any (bytes_eq name) names)) (are_distinct bytes_eq names) distinct).0)
same_place (name ∷ names) distinct (suc a) (suc b) one other same =
    let rest : a ≡ b = same_place names (and_parts (not (list_any (bytes_eq name) names)) (are_distinct bytes_eq names) distinct).1 a b (omega (arith, one)) (omega (arith, other)) same in
    ap suc rest

pub names_tell : (names : List (List ℕ)) → are_distinct bytes_eq names ≡ true → (a b : ℕ) → a < length names → b < length names → bytes_eq (get_or names a []) (get_or names b []) ≡ nat_eq a b
names_tell names distinct a b one other =
    same_from_decides (bytes_eq (get_or names a []) (get_or names b [])) (nat_eq a b)
    (Decides-like (bytes_eq (get_or names a []) (get_or names b [])) (same_place names distinct a b one other) (λ is. ap (λ n. get_or names n []) is) (bytes_eq-Decides (get_or names a []) (get_or names b [])))
    (Decides-eqb a b)

-- what a name finds
pub found_by_name : {X : Type 0} (name_of : X → List ℕ) (xs : List X) → are_distinct bytes_eq (map name_of xs) ≡ true → (n : ℕ) (x : X) → slice_get xs n ≡ Some x
    → find (λ y. bytes_eq (name_of y) (name_of x)) xs ≡ Some x
found_by_name name_of [] distinct n x is = cc
found_by_name {X} name_of (y ∷ xs) distinct zero x is =
    let own : y ≡ x = cc in
    ap (λ b. cond b (Some y) (find (λ z. bytes_eq (name_of z) (name_of x)) xs)) (text_same (name_of y) (name_of x) (ap name_of own)) ∙ ap (λ (z : X). Some z) own
found_by_name {X} name_of (y ∷ xs) distinct (suc n) x is =
    let parts = and_parts (not (list_any (bytes_eq (name_of y)) (map name_of xs))) (are_distinct bytes_eq (map name_of xs)) distinct in
    let apart : bytes_eq (name_of y) (name_of x) ≡ false =
    none_is (bytes_eq (name_of y)) (map name_of xs) (not-true (list_any (bytes_eq (name_of y)) (map name_of xs)) parts.0) (name_of x) (named xs n x is) in
    ap (λ b. cond b (Some y) (find (λ z. bytes_eq (name_of z) (name_of x)) xs)) apart ∙ found_by_name name_of xs parts.1 n x is
  where
    named : (ys : List X) (n : ℕ) (x : X) → slice_get ys n ≡ Some x → Contains (map name_of ys) (name_of x)
    named [] n x is = cc
    named (w ∷ ys) zero x is = let own : w ≡ x = cc in subst (λ (z : X). Contains (map name_of (w ∷ ys)) (name_of z)) own (head_in (name_of w) (map name_of ys))
    named (w ∷ ys) (suc n) x is = tail_in (name_of w) (map name_of ys) (name_of x) (named ys n x is)

-- a name among those of some numbers, and a number among them
pub turned : (a b : ℕ) → nat_eq a b ≡ nat_eq b a
turned a b = same_from_decides (nat_eq a b) (nat_eq b a) (Decides-eqb a b) (Decides-like (nat_eq b a) (λ (is : b ≡ a). sym is) (λ is. sym is) (Decides-eqb b a))

pub among_names : (names : List (List ℕ)) → are_distinct bytes_eq names ≡ true → (n : ℕ) (ns : List ℕ) → n < length names → ((k : ℕ) → Contains ns k → k < length names)
    → list_any (bytes_eq (get_or names n [])) (map (λ k. get_or names k []) ns) ≡ is_among n ns
among_names names distinct n ns within all_within =
    any_mapped (bytes_eq (get_or names n [])) (λ (k : ℕ). get_or names k []) ns
    ∙ any_same (λ (k : ℕ). bytes_eq (get_or names n []) (get_or names k [])) (λ (k : ℕ). nat_eq k n) ns
    (λ k inside. names_tell names distinct n k within (all_within k inside) ∙ turned n k)

-- what a filter keeps of a distinct list, and the numbers of a range
pub distinct_kept : {X : Type 0} (same : X → X → Bool) (p : X → Bool) (xs : List X) → are_distinct same xs ≡ true → are_distinct same (filter p xs) ≡ true
distinct_kept same p [] distinct = refl
distinct_kept {X} same p (x ∷ xs) distinct =
    let parts = and_parts (not (list_any (same x) xs)) (are_distinct same xs) distinct in
    let rest : are_distinct same (filter p xs) ≡ true = distinct_kept same p xs parts.1 in
    let none : list_any (same x) (filter p xs) ≡ false =
    any_is_not (same x) (filter p xs) (λ y inside. none_is (same x) xs (not-true (list_any (same x) xs) parts.0) y (filter_in p xs y inside).0) in
    elim (p x) as (λ b. are_distinct same (cond b (x ∷ filter p xs) (filter p xs)) ≡ true) [
      | true ↦ and_from (not (list_any (same x) (filter p xs))) (are_distinct same (filter p xs)) (ap not none) rest
      | false ↦ rest
    ]

later_numbers : (start n k : ℕ) → Contains (range_with_len start n) k → start ≤ k
later_numbers start zero k inside = absurd (omega (arith, inside.1))
later_numbers start (suc n) k inside =
    elim (in_cons start (range_with_len (start + 1) n) k inside) [
      | inl same ↦ omega (arith, same)
      | inr later ↦ let rest = later_numbers (start + 1) n k later in omega (arith, rest)
    ]

pub distinct_range : (start n : ℕ) → are_distinct nat_eq (range_with_len start n) ≡ true
distinct_range start zero = refl
distinct_range start (suc n) =
    let none : list_any (nat_eq start) (range_with_len (start + 1) n) ≡ false =
    any_is_not (nat_eq start) (range_with_len (start + 1) n) (λ k inside. ne_eqb start k (λ same. let above = later_numbers (start + 1) n k inside in omega (arith, above, same))) in
    and_from (not (list_any (nat_eq start) (range_with_len (start + 1) n))) (are_distinct nat_eq (range_with_len (start + 1) n)) (ap not none) (distinct_range (start + 1) n)
