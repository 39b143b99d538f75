-- Where an item stands in a list, and what is in lists that are made of others.
use Rattle.std.proofs.Common.{◌≡◌, ℕ, zero, suc, ◌+◌, ◌<◌, ◌⊎◌, inl, inr, Bool, true, false, not, nat_eq, cond, List, [], ◌∷◌, ◌++◌, map, flat_map, filter_map, slice_get, Option, Some, None, refl, ap, sym, subst, ◌∙◌, arith, Contains, eq-eqb}
use Rattle.std.specs.List.{list_any, range_with_len, cons_option}
use Rattle.std.proofs.lemmas.Bool.{and_parts, or_left, or_right, not-true, false≢true}
use Rattle.std.proofs.lemmas.Option.{none-some, same_Some}
use Rattle.std.proofs.lemmas.List.Elements.{Contains-append_left, Contains-append_right, Contains-append_cases}
use Rattle.plan_order.proofs.Loops.{head_in, tail_in, in_cons}
use Rattle.plan_order.proofs.Orders.{none_in_nil}
use Rattle.cpl_plan.specs.PlanWords.{are_distinct}

-- what is in a list stands between others
pub at_split : {X : Type 0} (xs : List X) (x : X) → Contains xs x → (before : List X) × (after : List X) × (xs ≡ before ++ x ∷ after)
at_split [] x inside = absurd (none_in_nil x inside)
at_split (y ∷ xs) x inside =
    elim (in_cons y xs x inside) [
      | inl same ↦ ([], xs, ap (λ z. z ∷ xs) same)
      | inr rest ↦ let more = at_split xs x rest in (y ∷ more.0, more.1, ap (λ zs. y ∷ zs) more.2)
    ]

pub in_middle : {X : Type 0} (before : List X) (x : X) (after : List X) → Contains (before ++ x ∷ after) x
in_middle before x after = Contains-append_right before (x ∷ after) x (head_in x after)

-- what is in a list that is there by a test
pub in_cond : {X : Type 0} (test : Bool) (xs : List X) (x : X) → Contains (cond test xs []) x → (test ≡ true) × Contains xs x
in_cond true xs x inside = (refl, inside)
in_cond false xs x inside = absurd (none_in_nil x inside)

pub map_in : {X Y : Type 0} (f : X → Y) (xs : List X) (y : Y) → Contains (map f xs) y → (x : X) × Contains xs x × (f x ≡ y)
map_in f [] y inside = absurd (none_in_nil y inside)
map_in f (x ∷ xs) y inside =
    elim (in_cons (f x) (map f xs) y inside) [
      | inl same ↦ (x, head_in x xs, same)
      | inr rest ↦ let more = map_in f xs y rest in (more.0, tail_in x xs more.0 more.1, more.2)
    ]

pub in_map : {X Y : Type 0} (f : X → Y) (xs : List X) (x : X) → Contains xs x → Contains (map f xs) (f x)
in_map f [] x inside = absurd (none_in_nil x inside)
in_map {X} {Y} f (z ∷ xs) x inside =
    elim (in_cons z xs x inside) [
      | inl same ↦ subst (λ (y : X). Contains (map f (z ∷ xs)) (f y)) same (head_in (f z) (map f xs))
      | inr rest ↦ tail_in (f z) (map f xs) (f x) (in_map f xs x rest)
    ]

-- what is in lists in a row is in that of one item
pub flat_map_in : {X Y : Type 0} (f : X → List Y) (xs : List X) (y : Y) → Contains (flat_map f xs) y → (k : ℕ) × (x : X) × (slice_get xs k ≡ Some x) × Contains (f x) y
flat_map_in f [] y inside = absurd (none_in_nil y inside)
flat_map_in f (x ∷ xs) y inside =
    elim (Contains-append_cases (f x) (flat_map f xs) y inside) [
      | inl here ↦ (zero, x, refl, here)
      | inr rest ↦ let more = flat_map_in f xs y rest in (suc more.0, more.1, more.2, more.3)
    ]

pub in_flat_map : {X Y : Type 0} (f : X → List Y) (xs : List X) (k : ℕ) (x : X) (y : Y) → slice_get xs k ≡ Some x → Contains (f x) y → Contains (flat_map f xs) y
in_flat_map f [] k x y is inside = absurd (none-some x is)
in_flat_map {X} {Y} f (z ∷ xs) zero x y is inside =
    Contains-append_left (f z) (flat_map f xs) y (subst (λ (v : X). Contains (f v) y) (sym (same_Some z x is)) inside)
in_flat_map f (z ∷ xs) (suc k) x y is inside = Contains-append_right (f z) (flat_map f xs) y (in_flat_map f xs k x y is inside)

in_cons_option : {Y : Type 0} (o : Option Y) (ys : List Y) (y : Y) → Contains (cons_option o ys) y → (o ≡ Some y) ⊎ Contains ys y
in_cons_option None ys y inside = inr inside
in_cons_option (Some z) ys y inside = elim (in_cons z ys y inside) [ inl same ↦ inl (ap Some same) | inr rest ↦ inr rest ]

pub filter_map_in : {X Y : Type 0} (f : X → Option Y) (xs : List X) (y : Y) → Contains (filter_map f xs) y → (x : X) × Contains xs x × (f x ≡ Some y)
filter_map_in f [] y inside = absurd (none_in_nil y inside)
filter_map_in f (x ∷ xs) y inside =
    elim (in_cons_option (f x) (filter_map f xs) y inside) [
      | inl here ↦ (x, head_in x xs, here)
      | inr rest ↦ let more = filter_map_in f xs y rest in (more.0, tail_in x xs more.0 more.1, more.2)
    ]

-- numbers from one on are below its sum with their count
pub range_in : (start n k : ℕ) → Contains (range_with_len start n) k → k < start + n
range_in start zero k inside = absurd (none_in_nil k inside)
range_in start (suc n) k inside =
    elim (in_cons start (range_with_len (start + 1) n) k inside) [
      | inl same ↦ omega (arith, same)
      | inr rest ↦ let more = range_in (start + 1) n k rest in omega (arith, more)
    ]

found_again : (n : ℕ) (ns : List ℕ) → Contains ns n → list_any (nat_eq n) ns ≡ true
found_again n [] inside = absurd (none_in_nil n inside)
found_again n (m ∷ ns) inside =
    elim (in_cons m ns n inside) [
      | inl same ↦ or_left (nat_eq n m) (list_any (nat_eq n) ns) (eq-eqb n m (sym same))
      | inr rest ↦ or_right (nat_eq n m) (list_any (nat_eq n) ns) (found_again n ns rest)
    ]

not_again : (n : ℕ) (ns : List ℕ) → are_distinct nat_eq (n ∷ ns) ≡ true → Contains ns n → ⊥
not_again n ns distinct inside =
    let both = and_parts (not (list_any (nat_eq n) ns)) (are_distinct nat_eq ns) distinct in
    false≢true (sym (not-true (list_any (nat_eq n) ns) both.0) ∙ found_again n ns inside)

-- distinct numbers stand in one place each
pub stands_once : (before : List ℕ) (n : ℕ) (after : List ℕ) → are_distinct nat_eq (before ++ n ∷ after) ≡ true → (Contains before n → ⊥) × (Contains after n → ⊥)
stands_once [] n after distinct = (λ inside. none_in_nil n inside, not_again n after distinct)
stands_once (m ∷ before) n after distinct =
    let both = and_parts (not (list_any (nat_eq m) (before ++ n ∷ after))) (are_distinct nat_eq (before ++ n ∷ after)) distinct in
    let rest = stands_once before n after both.1 in (
      λ inside. elim (in_cons m before n inside) [
        | inl same ↦ not_again m (before ++ n ∷ after) distinct
            (subst (λ (x : ℕ). Contains (before ++ n ∷ after) x) (sym same) (in_middle before n after))
        | inr more ↦ rest.0 more
      ],
      rest.1,
    )
