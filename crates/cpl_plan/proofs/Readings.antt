-- What the words of a plan tell of its items.
use Rattle.std.proofs.Common.{◌≡◌, ℕ, zero, suc, ◌+◌, ◌<◌, inl, inr, Bool, true, false, ◌||◌, not, nat_eq, cond, List, [], ◌∷◌, length, refl, ap, sym, subst, ◌∙◌, arith}
use Rattle.std.specs.Prelude.{Contains, filter, slice_get, slice_index, Option, Some, None}
use Rattle.std.specs.List.{list_all, list_any, enumerate_from, range_with_len}
use Rattle.std.specs.Cmp.Lexicographic.{pointwise}
use Rattle.std.specs.Option.{option_map_or}
use Rattle.std.proofs.lemmas.Bool.{cases_Bool, and_parts, and_from, or_cases, eqb-true, eq-eqb, false≢true, not-true}
use Rattle.plan_order.proofs.Loops.{head_in, tail_in, in_cons}
use Rattle.cpl_plan.specs.PlanWords.{each, passes, is_among, are_distinct, numbers}

module _ {X : Type 0} (test : ℕ → X → Bool) where
  from : (start : ℕ) (xs : List X) → list_all (λ entry. test entry.0 entry.1) (enumerate_from start xs) ≡ true
      → (n : ℕ) (x : X) → slice_get xs n ≡ Some x → test (start + n) x ≡ true
  from start [] all n x is = absurd (none is)
    where
      none : {Y : Type 0} {y : Y} → None ≡ Some y → ⊥
      none e = cc
  from start (y ∷ xs) all zero x is =
      let same : y ≡ x = cc in
      let here : start ≡ start + 0 = omega (arith) in
      subst (λ (k : ℕ). test k x ≡ true) here
      (subst (λ (z : X). test start z ≡ true) same (and_parts (test start y) (list_all (λ entry. test entry.0 entry.1) (enumerate_from (start + 1) xs)) all).0)
  from start (y ∷ xs) all (suc n) x is =
      let there : start + 1 + n ≡ start + suc n = omega (arith) in
      subst (λ (k : ℕ). test k x ≡ true) there
      (from (start + 1) xs (and_parts (test start y) (list_all (λ entry. test entry.0 entry.1) (enumerate_from (start + 1) xs)) all).1 n x is)

  back : (start : ℕ) (xs : List X) → ((n : ℕ) (x : X) → slice_get xs n ≡ Some x → test (start + n) x ≡ true)
      → list_all (λ entry. test entry.0 entry.1) (enumerate_from start xs) ≡ true
  back start [] each_one = refl
  back start (y ∷ xs) each_one =
      let here : start + 0 ≡ start = omega (arith) in
      and_from (test start y) (list_all (λ entry. test entry.0 entry.1) (enumerate_from (start + 1) xs))
      (subst (λ (k : ℕ). test k y ≡ true) here (each_one 0 y refl))
      (back (start + 1) xs (λ n x is.
      let there : start + suc n ≡ start + 1 + n = omega (arith) in
      subst (λ (k : ℕ). test k x ≡ true) there (each_one (suc n) x is)))

  -- from each item to this one, and back
  pub each_at : (xs : List X) → each xs test ≡ true → (n : ℕ) (x : X) → slice_get xs n ≡ Some x → test n x ≡ true
  each_at xs all n x is = let zero_on : 0 + n ≡ n = omega (arith) in subst (λ (k : ℕ). test k x ≡ true) zero_on (from 0 xs all n x is)

  pub each_from : (xs : List X) → ((n : ℕ) (x : X) → slice_get xs n ≡ Some x → test n x ≡ true) → each xs test ≡ true
  each_from xs each_one =
      back 0 xs (λ n x is. let zero_on : n ≡ 0 + n = omega (arith) in subst (λ (k : ℕ). test k x ≡ true) zero_on (each_one n x is))

-- an item that passes is there
pub passes_at : {X : Type 0} (xs : List X) (n : ℕ) (test : X → Bool) → passes xs n test ≡ true → (x : X) × (slice_get xs n ≡ Some x) × (test x ≡ true)
passes_at xs n test is = of (slice_get xs n) is
  where
    of : {X : Type 0} {test : X → Bool} (o : Option X) → option_map_or test o false ≡ true → (x : X) × (o ≡ Some x) × (test x ≡ true)
    of None is = absurd (false≢true is)
    of (Some x) is = (x, refl, is)

pub at_passes : {X : Type 0} (xs : List X) (n : ℕ) (test : X → Bool) (x : X) → slice_get xs n ≡ Some x → test x ≡ true → passes xs n test ≡ true
at_passes xs n test x is holds = ap (λ o. option_map_or test o false) is ∙ holds

pub among_in : (n : ℕ) (ns : List ℕ) → is_among n ns ≡ true → Contains ns n
among_in n [] is = absurd (false≢true is)
among_in n (m ∷ ns) is =
    elim (or_cases (nat_eq m n) (is_among n ns) is) [
      | inl here ↦ subst (λ (k : ℕ). Contains (m ∷ ns) k) (eqb-true m n here) (head_in m ns)
      | inr rest ↦ tail_in m ns n (among_in n ns rest)
    ]

pub in_among : (n : ℕ) (ns : List ℕ) → Contains ns n → is_among n ns ≡ true
in_among n [] inside = absurd (omega (arith, inside.1))
in_among n (m ∷ ns) inside =
    elim (in_cons m ns n inside) [
      | inl same ↦ ap (λ b. b || is_among n ns) (eq-eqb m n same)
      | inr rest ↦ elim (nat_eq m n) as (λ b. (b || is_among n ns) ≡ true) [ true ↦ refl | false ↦ in_among n ns rest ]
    ]

-- what is left of a list is there and passes
pub filter_in : {X : Type 0} (test : X → Bool) (xs : List X) (x : X) → Contains (filter test xs) x → Contains xs x × (test x ≡ true)
filter_in test [] x inside = absurd (omega (arith, inside.1))
filter_in test (y ∷ xs) x inside =
    elim (cases_Bool (test y)) [
      | inl holds ↦
          let P : List _ → Type 0 = λ zs. Contains zs x in
          elim (in_cons y (filter test xs) x (subst P (ap (λ b. cond b (y ∷ filter test xs) (filter test xs)) holds) inside)) [
            | inl same ↦ subst (λ z. Contains (y ∷ xs) z × (test z ≡ true)) same (head_in y xs, holds)
            | inr rest ↦ let old = filter_in test xs x rest in (tail_in y xs x old.0, old.1)
          ]
      | inr fails ↦
          let P : List _ → Type 0 = λ zs. Contains zs x in
          let old = filter_in test xs x (subst P (ap (λ b. cond b (y ∷ filter test xs) (filter test xs)) fails) inside) in (tail_in y xs x old.0, old.1)
    ]

pub in_filter : {X : Type 0} (test : X → Bool) (xs : List X) (x : X) → Contains xs x → test x ≡ true → Contains (filter test xs) x
in_filter test [] x inside holds = absurd (omega (arith, inside.1))
in_filter test (y ∷ xs) x inside holds =
    elim (in_cons y xs x inside) [
      | inl same ↦
          let own : test y ≡ true = ap test same ∙ holds in
          subst (λ zs. Contains zs x) (sym (ap (λ b. cond b (y ∷ filter test xs) (filter test xs)) own))
          (subst (λ z. Contains (y ∷ filter test xs) z) same (head_in y (filter test xs)))
      | inr rest ↦ elim (test y) as (λ b. Contains (cond b (y ∷ filter test xs) (filter test xs)) x) [
        | true ↦ tail_in y (filter test xs) x (in_filter test xs x rest holds)
        | false ↦ in_filter test xs x rest holds
      ]
    ]

-- the numbers of a list's items are those below its length
in_range : (start n k : ℕ) → k < n → Contains (range_with_len start n) (start + k)
in_range start zero k below = absurd (omega (arith, below))
in_range start (suc n) zero below =
    let here : start ≡ start + 0 = omega (arith) in subst (λ (m : ℕ). Contains (range_with_len start (suc n)) m) here (head_in start (range_with_len (start + 1) n))
in_range start (suc n) (suc k) below =
    let there : start + 1 + k ≡ start + suc k = omega (arith) in
    subst (λ (m : ℕ). Contains (range_with_len start (suc n)) m) there (tail_in start (range_with_len (start + 1) n) (start + 1 + k) (in_range (start + 1) n k (omega (arith, below))))

pub in_numbers : {X : Type 0} (xs : List X) (n : ℕ) → n < length xs → Contains (numbers xs) n
in_numbers xs n below =
    let zero_on : 0 + n ≡ n = omega (arith) in subst (λ (m : ℕ). Contains (numbers xs) m) zero_on (in_range 0 (length xs) n below)

pub there : {X : Type 0} (xs : List X) (n : ℕ) → n < length xs → (x : X) × (slice_get xs n ≡ Some x)
there [] n below = absurd (omega (arith, below))
there (x ∷ xs) zero below = (x, refl)
there (x ∷ xs) (suc n) below = there xs n (omega (arith, below))

-- no two of distinct numbers are the same
pub apart_from : (ns : List ℕ) → are_distinct nat_eq ns ≡ true → (i j : ℕ) → i < j → j < length ns → slice_index ns i ≡ slice_index ns j → ⊥
apart_from [] distinct i j less within same = omega (arith, within)
apart_from (n ∷ ns) distinct zero zero less within same = omega (arith, less)
apart_from (n ∷ ns) distinct zero (suc j) less within same =
    let both = and_parts (not (list_any (nat_eq n) ns)) (are_distinct nat_eq ns) distinct in
    let none : list_any (nat_eq n) ns ≡ false = not-true (list_any (nat_eq n) ns) both.0 in
    false≢true (sym none ∙ found n ns j (omega (arith, within)) same)
  where
    found : (n : ℕ) (ns : List ℕ) (j : ℕ) → j < length ns → n ≡ slice_index ns j → list_any (nat_eq n) ns ≡ true
    found n [] j within same = absurd (omega (arith, within))
    found n (m ∷ ns) zero within same = ap (λ b. b || list_any (nat_eq n) ns) (eq-eqb n m same)
    found n (m ∷ ns) (suc j) within same =
        elim (nat_eq n m) as (λ b. (b || list_any (nat_eq n) ns) ≡ true) [ true ↦ refl | false ↦ found n ns j (omega (arith, within)) same ]
apart_from (n ∷ ns) distinct (suc i) zero less within same = omega (arith, less)
apart_from (n ∷ ns) distinct (suc i) (suc j) less within same =
    apart_from ns (and_parts (not (list_any (nat_eq n) ns)) (are_distinct nat_eq ns) distinct).1 i j (omega (arith, less)) (omega (arith, within)) same

pub from_apart : (ns : List ℕ) → ((i j : ℕ) → i < j → j < length ns → slice_index ns i ≡ slice_index ns j → ⊥) → are_distinct nat_eq ns ≡ true
from_apart [] apart = refl
from_apart (n ∷ ns) apart =
    and_from (not (list_any (nat_eq n) ns)) (are_distinct nat_eq ns)
    (elim (cases_Bool (list_any (nat_eq n) ns)) [
      | inl holds ↦ let one = place ns holds in absurd (apart 0 (suc one.0) (omega (arith)) (omega (arith, one.1)) one.2)
      | inr fails ↦ ap not fails
    ])
    (from_apart ns (λ i j less within. apart (suc i) (suc j) (omega (arith, less)) (omega (arith, within))))
  where
    place : (ms : List ℕ) → list_any (nat_eq n) ms ≡ true → (j : ℕ) × (j < length ms) × (n ≡ slice_index ms j)
    place [] is = absurd (false≢true is)
    place (m ∷ ms) is = elim (or_cases (nat_eq n m) (list_any (nat_eq n) ms) is) [
      | inl here ↦ (0, omega (arith), eqb-true n m here)
      | inr rest ↦ let one = place ms rest in (suc one.0, omega (arith, one.1), one.2)
    ]

-- lists that are equal item by item are equal
pub same_numbers : (ns ms : List ℕ) → pointwise nat_eq ns ms ≡ true → ns ≡ ms
same_numbers [] [] is = refl
same_numbers [] (m ∷ ms) is = absurd (false≢true is)
same_numbers (n ∷ ns) [] is = absurd (false≢true is)
same_numbers (n ∷ ns) (m ∷ ms) is =
    let both = and_parts (nat_eq n m) (pointwise nat_eq ns ms) is in
    let one : n ≡ m = eqb-true n m both.0 in
    let rest = same_numbers ns ms both.1 in
    cc
