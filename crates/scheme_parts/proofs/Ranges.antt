-- Which numbers of a range pass a test.
use Rattle.std.proofs.Common.{◌≡◌, ℕ, zero, suc, ◌+◌, ◌<◌, ◌≤◌, Bool, true, false, not, ◌&&◌, cond, inl, inr, List, [], ◌∷◌, ◌++◌, length, Some, None, position, All, refl, ap, sym, ◌∙◌, arith}
use Rattle.std.specs.Prelude.{filter, slice_get, nat_lt}
use Rattle.std.specs.List.{range_with_len, position_or_len}
use Rattle.std.proofs.lemmas.Bool.{cases_Bool, false≢true}
use Rattle.std.proofs.lemmas.List.Elements.{All-head, All-tail}
use Rattle.config_laws.specs.Placed.{IsOnlyOne}
use Rattle.scheme_parts.proofs.Tables.{same_some, none_some, found_place}

kept : {X : Type 0} (p : X → Bool) (x : X) (xs : List X) (b : Bool) → p x ≡ b → filter p (x ∷ xs) ≡ cond b (x ∷ filter p xs) (filter p xs)
kept p x xs b is = ap (λ c. cond c (x ∷ filter p xs) (filter p xs)) is

-- a test at a number further on
later_test : (test : ℕ → Bool) (start j : ℕ) (b : Bool) → test (start + suc j) ≡ b → test (start + 1 + j) ≡ b
later_test test start j b is = let same : start + 1 + j ≡ start + suc j = omega (arith) in ap test same ∙ is

first_test : (test : ℕ → Bool) (start : ℕ) (b : Bool) → test (start + 0) ≡ b → test start ≡ b
first_test test start b is = let same : start ≡ start + 0 = omega (arith) in ap test same ∙ is

pub none_in_range : (test : ℕ → Bool) (start n : ℕ) → ((j : ℕ) → j < n → test (start + j) ≡ false) → filter test (range_with_len start n) ≡ []
none_in_range test start zero none = refl
none_in_range test start (suc n) none =
    kept test start (range_with_len (start + 1) n) false (first_test test start false (none 0 (omega (arith))))
    ∙ none_in_range test (start + 1) n (λ j less. later_test test start j false (none (suc j) (omega (arith, less))))

fails_by : (b : Bool) → (b ≡ true → ⊥) → b ≡ false
fails_by true no_way = absurd (no_way refl)
fails_by false no_way = refl

suc_zero : (j : ℕ) → suc j ≡ 0 → ⊥
suc_zero j e = omega (arith, e)

-- one number alone passes
pub only_in_range : (test : ℕ → Bool) (start n k : ℕ) → k < n → test (start + k) ≡ true → ((j : ℕ) → j < n → test (start + j) ≡ true → j ≡ k) → filter test (range_with_len start n) ≡ (start + k) ∷ []
only_in_range test start zero k less holds only = absurd (omega (arith, less))
only_in_range test start (suc n) zero less holds only =
    let here : start ≡ start + 0 = omega (arith) in
    let rest : filter test (range_with_len (start + 1) n) ≡ [] =
    none_in_range test (start + 1) n (λ j more. later_test test start j false (fails_by (test (start + suc j)) (λ is. suc_zero j (only (suc j) (omega (arith, more)) is)))) in
    kept test start (range_with_len (start + 1) n) true (first_test test start true holds) ∙ (ap (λ (xs : List ℕ). start ∷ xs) rest ∙ ap (λ (k : ℕ). k ∷ []) here)
only_in_range test start (suc n) (suc k) less holds only =
    let there : start + 1 + k ≡ start + suc k = omega (arith) in
    let first : test start ≡ false = first_test test start false (fails_by (test (start + 0)) (λ is. suc_zero k (sym (only 0 (omega (arith)) is)))) in
    let rest : filter test (range_with_len (start + 1) n) ≡ (start + 1 + k) ∷ [] =
    only_in_range test (start + 1) n k (omega (arith, less)) (later_test test start k true holds)
    (λ j more is. less_one j k (only (suc j) (omega (arith, more)) (back_test test start j is))) in
    kept test start (range_with_len (start + 1) n) false first ∙ (rest ∙ ap (λ (m : ℕ). m ∷ []) there)
  where
    back_test : (test : ℕ → Bool) (start j : ℕ) → test (start + 1 + j) ≡ true → test (start + suc j) ≡ true
    back_test test start j is = let same : start + suc j ≡ start + 1 + j = omega (arith) in ap test same ∙ is

    less_one : (j k : ℕ) → suc j ≡ suc k → j ≡ k
    less_one j k e = omega (arith, e)

-- from 0 on
pub only_number : (test : ℕ → Bool) (n k : ℕ) → k < n → test k ≡ true → ((j : ℕ) → j < n → test j ≡ true → j ≡ k) → filter test (range_with_len 0 n) ≡ k ∷ []
only_number test n k less holds only =
    let on : (j : ℕ) → 0 + j ≡ j = λ j. omega (arith) in
    only_in_range test 0 n k less (ap test (on k) ∙ holds) (λ j more is. only j more (sym (ap test (on j)) ∙ is)) ∙ ap (λ (m : ℕ). m ∷ []) (on k)

pub no_number : (test : ℕ → Bool) (n : ℕ) → ((j : ℕ) → j < n → test j ≡ false) → filter test (range_with_len 0 n) ≡ []
no_number test n none = none_in_range test 0 n (λ j less. let on : 0 + j ≡ j = omega (arith) in ap test on ∙ none j less)

-- the first number that passes
pub first_in_range : (test : ℕ → Bool) (start n k : ℕ) → k < n → test (start + k) ≡ true → ((j : ℕ) → j < k → test (start + j) ≡ false) → slice_get (filter test (range_with_len start n)) 0 ≡ Some (start + k)
first_in_range test start zero k less holds none = absurd (omega (arith, less))
first_in_range test start (suc n) zero less holds none =
    let here : start ≡ start + 0 = omega (arith) in
    ap (λ (xs : List ℕ). slice_get xs 0) (kept test start (range_with_len (start + 1) n) true (first_test test start true holds)) ∙ ap (λ (m : ℕ). Some m) here
first_in_range test start (suc n) (suc k) less holds none =
    let there : start + 1 + k ≡ start + suc k = omega (arith) in
    ap (λ (xs : List ℕ). slice_get xs 0) (kept test start (range_with_len (start + 1) n) false (first_test test start false (none 0 (omega (arith)))))
    ∙ (first_in_range test (start + 1) n k (omega (arith, less)) (later_test test start k true holds) (λ j more. later_test test start j false (none (suc j) (omega (arith, more))))
    ∙ ap (λ (m : ℕ). Some m) there)

-- at most one passes where no two do
pub at_most_one : (test : ℕ → Bool) (n : ℕ) → ((i j : ℕ) → i < n → j < n → test i ≡ true → test j ≡ true → i ≡ j) → length (filter test (range_with_len 0 n)) ≤ 1
at_most_one test n one = some_or_none test 0 n (λ i j less less' is is'. one i j less less' (unmoved test i is) (unmoved test j is'))
  where
    unmoved : (test : ℕ → Bool) (i : ℕ) → test (0 + i) ≡ true → test i ≡ true
    unmoved test i is = let on : i ≡ 0 + i = omega (arith) in ap test on ∙ is

    back_test : (test : ℕ → Bool) (start j : ℕ) → test (start + 1 + j) ≡ true → test (start + suc j) ≡ true
    back_test test start j is = let same : start + suc j ≡ start + 1 + j = omega (arith) in ap test same ∙ is

    less_one : (j k : ℕ) → suc j ≡ suc k → j ≡ k
    less_one j k e = omega (arith, e)

    some_or_none : (test : ℕ → Bool) (start n : ℕ) → ((i j : ℕ) → i < n → j < n → test (start + i) ≡ true → test (start + j) ≡ true → i ≡ j) → length (filter test (range_with_len start n)) ≤ 1
    some_or_none test start zero one = omega (arith)
    some_or_none test start (suc n) one = elim (cases_Bool (test start)) [
      | inl holds ↦
          let here : test (start + 0) ≡ true = (let same : start + 0 ≡ start = omega (arith) in ap test same ∙ holds) in
          let rest : filter test (range_with_len (start + 1) n) ≡ [] =
          none_in_range test (start + 1) n (λ j more. later_test test start j false (fails_by (test (start + suc j)) (λ is. suc_zero j (one (suc j) 0 (omega (arith, more)) (omega (arith)) is here)))) in
          let whole = kept test start (range_with_len (start + 1) n) true holds ∙ ap (λ (xs : List ℕ). start ∷ xs) rest in
          omega (arith, ap length whole)
      | inr fails ↦
          let later = some_or_none test (start + 1) n (λ i j less less' is is'. less_one i j (one (suc i) (suc j) (omega (arith, less)) (omega (arith, less')) (back_test test start i is) (back_test test start j is'))) in
          omega (arith, later, ap length (kept test start (range_with_len (start + 1) n) false fails))
    ]

twice_here : {X : Type 0} (p q : X → Bool) (x : X) (xs : List X) (b : Bool) → p x ≡ b → filter q (filter p xs) ≡ filter (λ y. p y && q y) xs
    → filter q (cond (p x) (x ∷ filter p xs) (filter p xs)) ≡ cond (p x && q x) (x ∷ filter (λ y. p y && q y) xs) (filter (λ y. p y && q y) xs)
twice_here {X} p q x xs true is rest =
    ap (λ b. filter q (cond b (x ∷ filter p xs) (filter p xs))) is
    ∙ (ap (λ (ys : List X). cond (q x) (x ∷ ys) ys) rest ∙ sym (ap (λ b. cond (b && q x) (x ∷ filter (λ y. p y && q y) xs) (filter (λ y. p y && q y) xs)) is))
twice_here {X} p q x xs false is rest =
    ap (λ b. filter q (cond b (x ∷ filter p xs) (filter p xs))) is
    ∙ (rest ∙ sym (ap (λ b. cond (b && q x) (x ∷ filter (λ y. p y && q y) xs) (filter (λ y. p y && q y) xs)) is))

-- two filters are one
pub filter_twice : {X : Type 0} (p q : X → Bool) (xs : List X) → filter q (filter p xs) ≡ filter (λ x. p x && q x) xs
filter_twice p q [] = refl
filter_twice p q (x ∷ xs) = twice_here p q x xs (p x) refl (filter_twice p q xs)

-- where one alone passes, its place is the only one
split_place : {X : Type 0} (test : X → Bool) (before : List X) (one : X) (after : List X) (j : ℕ) (x : X) → All (λ y. test y ≡ false) before → All (λ y. test y ≡ false) after
    → slice_get (before ++ one ∷ after) j ≡ Some x → test x ≡ true → j ≡ length before
split_place test [] one after zero x none_before none_after is holds = refl
split_place {X} test [] one after (suc j) x none_before none_after is holds = absurd (false≢true (sym (at_all test after j x none_after is) ∙ holds))
  where
    at_all : {X : Type 0} (test : X → Bool) (xs : List X) (j : ℕ) (x : X) → All (λ y. test y ≡ false) xs → slice_get xs j ≡ Some x → test x ≡ false
    at_all test [] j x all is = absurd (none_some is)
    at_all {X} test (y ∷ xs) zero x all is = sym (ap test (same_some is)) ∙ All-head (λ (y : X). test y ≡ false) y xs all
    at_all {X} test (y ∷ xs) (suc j) x all is = at_all test xs j x (All-tail (λ (y : X). test y ≡ false) y xs all) is
split_place {X} test (y ∷ before) one after zero x none_before none_after is holds =
    absurd (false≢true (sym (sym (ap test (same_some is)) ∙ All-head (λ (y : X). test y ≡ false) y before none_before) ∙ holds))
split_place {X} test (y ∷ before) one after (suc j) x none_before none_after is holds =
    ap suc (split_place test before one after j x (All-tail (λ (y : X). test y ≡ false) y before none_before) none_after is holds)

pub record IsOnlyPlace {X : Type 0} (test : X → Bool) (xs : List X) (one : X) : Type 0 where
  pub place : ℕ
  pub placed : position test xs ≡ Some place
  pub at : slice_get xs place ≡ Some one
  pub only : (j : ℕ) (x : X) → slice_get xs j ≡ Some x → test x ≡ true → j ≡ place

pub only_place : {X : Type 0} (test : X → Bool) (xs : List X) (one : X) → IsOnlyOne test xs one → IsOnlyPlace test xs one
only_place {X} test xs one is =
    let found = found_place test xs one is.found in
    let unique : (j : ℕ) (x : X) → slice_get xs j ≡ Some x → test x ≡ true → j ≡ length is.before =
    λ j x at holds. split_place test is.before one is.after j x is.none_before is.none_after (sym (ap (λ (ys : List X). slice_get ys j) is.stands) ∙ at) holds in
    record {
      place = found.0;
      placed = found.1;
      at = found.2;
      only = λ j x at holds. unique j x at holds ∙ sym (unique found.0 one found.2 is.passes);
    }

first_passes : {X : Type 0} (p : X → Bool) (y x : X) (n : ℕ) (b : Bool) → p y ≡ b → 0 < cond (not b) (1 + n) 0 → y ≡ x → p x ≡ false
first_passes p y x n true is less same = absurd (omega (arith, less))
first_passes p y x n false is less same = sym (ap p same) ∙ is

one_later : (b : Bool) (n j : ℕ) → suc j < cond (not b) (1 + n) 0 → j < n
one_later true n j less = absurd (omega (arith, less))
one_later false n j less = omega (arith, less)

fails_before : {X : Type 0} (p : X → Bool) (xs : List X) (j : ℕ) (x : X) → j < position_or_len p xs → slice_get xs j ≡ Some x → p x ≡ false
fails_before p [] j x less at = absurd (none_some at)
fails_before p (y ∷ xs) zero x less at = first_passes p y x (position_or_len p xs) (p y) refl less (same_some at)
fails_before p (y ∷ xs) (suc j) x less at = fails_before p xs j x (one_later (p y) (position_or_len p xs) j less) at

is_place : (b : Bool) (n k : ℕ) → cond b (Some n) None ≡ Some k → n ≡ k
is_place true n k is = same_some is
is_place false n k is = absurd (none_some is)

-- before the first place that passes none does
pub before_place : {X : Type 0} (p : X → Bool) (xs : List X) (k : ℕ) → position p xs ≡ Some k → (j : ℕ) (x : X) → j < k → slice_get xs j ≡ Some x → p x ≡ false
before_place p xs k is j x less at =
    let same : position_or_len p xs ≡ k = is_place (nat_lt (position_or_len p xs) (length xs)) (position_or_len p xs) k is in
    fails_before p xs j x (omega (arith, less, same)) at
