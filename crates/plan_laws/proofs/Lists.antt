-- Lists by their items and by their places, mapped, filtered and numbered.
use Rattle.std.proofs.Common.{◌≡◌, ℕ, zero, suc, ◌+◌, ◌<◌, inl, inr, Bool, true, false, ◌||◌, ◌&&◌, cond, List, [], ◌∷◌, ◌++◌, length, map, get_or, Option, Some, None, All, Contains, refl, ap, sym, subst, ◌∙◌, arith}
use Rattle.std.specs.Prelude.{filter, find, flat_map, sum_by, slice_get, option_map, option_to_list}
use Rattle.std.specs.List.{list_any, list_all, enumerate_from, range_with_len}
use Rattle.std.specs.Option.{option_map_or}
use Rattle.std.proofs.lemmas.Bool.{false_from_ne_true}
use Rattle.std.proofs.lemmas.List.Elements.{All-nil, All-cons, All-map, All-contains, Contains-get_or}
use Rattle.std.proofs.lemmas.List.Sums.{AllPass-from_list_all, sum_by-cons, sum_by-append}
use Rattle.std.proofs.lemmas.Option.{slice_get_within, slice_get-get_or, get_or_from_slice_get, slice_get-map}
use Rattle.plan_order.proofs.Loops.{head_in, tail_in, in_cons}
use Rattle.cpl_plan.specs.PlanWords.{passes, numbers}
use Rattle.config_laws.specs.Placed.{EachAfter, IsOnlyOne}

-- an item at a place is in the list, and one that is in it has a place
pub in_at : {X : Type 0} (xs : List X) (n : ℕ) (x : X) → slice_get xs n ≡ Some x → Contains xs x
in_at xs n x is = (n, slice_get_within xs n x is, get_or_from_slice_get xs n x x is)

pub at_in : {X : Type 0} (xs : List X) (x : X) → Contains xs x → (n : ℕ) × (slice_get xs n ≡ Some x)
at_in {X} xs x inside = (inside.0, slice_get-get_or xs inside.0 x inside.1 ∙ ap (λ (y : X). Some y) inside.2)

pub some_is : {X : Type 0} (x y : X) → Some x ≡ Some y → x ≡ y
some_is x y is = cc

pub one_item : {X : Type 0} (xs : List X) (n : ℕ) (x y : X) → slice_get xs n ≡ Some x → slice_get xs n ≡ Some y → x ≡ y
one_item xs n x y one other = some_is x y (sym one ∙ other)

-- what holds of each item of a list holds of all
pub all_in : {X : Type 0} (P : X → Type 0) (xs : List X) → ((x : X) → Contains xs x → P x) → All P xs
all_in P xs each k d within = each (get_or xs k d) (Contains-get_or xs k d within)

pub all_mapped : {X Y : Type 0} (P : Y → Type 0) (f : X → Y) (xs : List X) → ((x : X) → Contains xs x → P (f x)) → All P (map f xs)
all_mapped {X} P f xs each = All-map P f xs (all_in (λ (x : X). P (f x)) xs each)

pub passes_each : {X : Type 0} (test : X → Bool) (xs : List X) → list_all test xs ≡ true → (x : X) → Contains xs x → test x ≡ true
passes_each {X} test xs all x inside = All-contains (λ (y : X). test y ≡ true) xs x (AllPass-from_list_all test xs all) inside

-- an item of a mapped list is what an item is mapped to
pub of_option : {X Y : Type 0} (f : X → Y) (o : Option X) (y : Y) → option_map f o ≡ Some y → (x : X) × (o ≡ Some x) × (f x ≡ y)
of_option f None y is = cc
of_option f (Some x) y is = (x, refl, some_is (f x) y is)

pub from_mapped : {X Y : Type 0} (f : X → Y) (xs : List X) (n : ℕ) (y : Y) → slice_get (map f xs) n ≡ Some y → (x : X) × (slice_get xs n ≡ Some x) × (f x ≡ y)
from_mapped f xs n y is = of_option f (slice_get xs n) y (sym (slice_get-map f xs n) ∙ is)

pub at_mapped : {X Y : Type 0} (f : X → Y) (xs : List X) (n : ℕ) (x : X) → slice_get xs n ≡ Some x → slice_get (map f xs) n ≡ Some (f x)
at_mapped {X} f xs n x is = slice_get-map f xs n ∙ ap (λ (o : Option X). option_map f o) is

pub in_mapped : {X Y : Type 0} (f : X → Y) (xs : List X) (y : Y) → Contains (map f xs) y → (x : X) × Contains xs x × (f x ≡ y)
in_mapped f xs y inside =
    let at = at_in (map f xs) y inside in
    let from = from_mapped f xs at.0 y at.1 in
    (from.0, in_at xs at.0 from.0 from.1, from.2)

-- the item at a split, and those before it
pub at_split : {X : Type 0} (xs before : List X) (item : X) (after : List X) → xs ≡ before ++ item ∷ after → slice_get xs (length before) ≡ Some item
at_split {X} xs before item after is = ap (λ (ys : List X). slice_get ys (length before)) is ∙ here before item after
  where
    here : {X : Type 0} (before : List X) (item : X) (after : List X) → slice_get (before ++ item ∷ after) (length before) ≡ Some item
    here [] item after = refl
    here (x ∷ before) item after = here before item after

front : {X : Type 0} (before rest : List X) (k : ℕ) (x : X) → slice_get before k ≡ Some x → slice_get (before ++ rest) k ≡ Some x
front [] rest k x is = cc
front (y ∷ before) rest zero x is = is
front (y ∷ before) rest (suc k) x is = front before rest k x is

pub before_split : {X : Type 0} (xs before : List X) (item : X) (after : List X) → xs ≡ before ++ item ∷ after → (other : X) → Contains before other
    → (k : ℕ) × (k < length before) × (slice_get xs k ≡ Some other)
before_split {X} xs before item after is other inside =
    let at = at_in before other inside in
    (at.0, slice_get_within before at.0 other at.1, ap (λ (ys : List X). slice_get ys at.0) is ∙ front before (item ∷ after) at.0 other at.1)

-- tests that agree on a list
pub any_same : {X : Type 0} (p q : X → Bool) (xs : List X) → ((x : X) → Contains xs x → p x ≡ q x) → list_any p xs ≡ list_any q xs
any_same p q [] same = refl
any_same p q (x ∷ xs) same =
    ap (λ b. b || list_any p xs) (same x (head_in x xs)) ∙ ap (λ b. q x || b) (any_same p q xs (λ y inside. same y (tail_in x xs y inside)))

pub any_mapped : {X Y : Type 0} (p : Y → Bool) (f : X → Y) (xs : List X) → list_any p (map f xs) ≡ list_any (λ x. p (f x)) xs
any_mapped p f [] = refl
any_mapped p f (x ∷ xs) = ap (λ b. p (f x) || b) (any_mapped p f xs)

pub filter_same : {X : Type 0} (p q : X → Bool) (xs : List X) → ((x : X) → Contains xs x → p x ≡ q x) → filter p xs ≡ filter q xs
filter_same p q [] same = refl
filter_same {X} p q (x ∷ xs) same =
    let rest : filter p xs ≡ filter q xs = filter_same p q xs (λ y inside. same y (tail_in x xs y inside)) in
    ap (λ b. cond b (x ∷ filter p xs) (filter p xs)) (same x (head_in x xs)) ∙ ap (λ (ys : List X). cond (q x) (x ∷ ys) ys) rest

pub filter_mapped : {X Y : Type 0} (p : Y → Bool) (f : X → Y) (xs : List X) → filter p (map f xs) ≡ map f (filter (λ x. p (f x)) xs)
filter_mapped p f [] = refl
filter_mapped {X} {Y} p f (x ∷ xs) =
    let q : X → Bool = λ z. p (f z) in
    elim (p (f x)) as (λ b. cond b (f x ∷ filter p (map f xs)) (filter p (map f xs)) ≡ map f (cond b (x ∷ filter q xs) (filter q xs))) [
      | true ↦ ap (λ (ys : List Y). f x ∷ ys) (filter_mapped p f xs)
      | false ↦ filter_mapped p f xs
    ]

pub filter_filter : {X : Type 0} (p q : X → Bool) (xs : List X) → filter q (filter p xs) ≡ filter (λ x. p x && q x) xs
filter_filter p q [] = refl
filter_filter {X} p q (x ∷ xs) =
    elim (p x) as (λ b. filter q (cond b (x ∷ filter p xs) (filter p xs)) ≡ cond (b && q x) (x ∷ filter (λ z. p z && q z) xs) (filter (λ z. p z && q z) xs)) [
      | true ↦ ap (λ (ys : List X). cond (q x) (x ∷ ys) ys) (filter_filter p q xs)
      | false ↦ filter_filter p q xs
    ]

pub find_mapped : {X Y : Type 0} (p : Y → Bool) (f : X → Y) (xs : List X) → find p (map f xs) ≡ option_map f (find (λ x. p (f x)) xs)
find_mapped p f [] = refl
find_mapped {X} p f (x ∷ xs) =
    elim (p (f x)) as (λ b. cond b (Some (f x)) (find p (map f xs)) ≡ option_map f (cond b (Some x) (find (λ z. p (f z)) xs))) [
      | true ↦ refl
      | false ↦ find_mapped p f xs
    ]

pub sum_same : {X : Type 0} (f g : X → ℕ) (xs : List X) → ((x : X) → Contains xs x → f x ≡ g x) → sum_by f xs ≡ sum_by g xs
sum_same f g [] same = refl
sum_same f g (x ∷ xs) same =
    let rest : sum_by f xs ≡ sum_by g xs = sum_same f g xs (λ y inside. same y (tail_in x xs y inside)) in
    let here : f x ≡ g x = same x (head_in x xs) in
    omega (arith, sum_by-cons f x xs, sum_by-cons g x xs, rest, here)

pub sum_mapped : {X Y : Type 0} (g : Y → ℕ) (f : X → Y) (xs : List X) → sum_by g (map f xs) ≡ sum_by (λ x. g (f x)) xs
sum_mapped g f [] = refl
sum_mapped {X} g f (x ∷ xs) =
    let rest : sum_by g (map f xs) ≡ sum_by (λ (z : X). g (f z)) xs = sum_mapped g f xs in
    omega (arith, sum_by-cons g (f x) (map f xs), sum_by-cons (λ (z : X). g (f z)) x xs, rest)

pub sum_of_flat : {X Y : Type 0} (g : Y → ℕ) (h : X → List Y) (xs : List X) → sum_by g (flat_map h xs) ≡ sum_by (λ x. sum_by g (h x)) xs
sum_of_flat g h [] = refl
sum_of_flat {X} g h (x ∷ xs) =
    let rest : sum_by g (flat_map h xs) ≡ sum_by (λ (z : X). sum_by g (h z)) xs = sum_of_flat g h xs in
    omega (arith, sum_by-append g (h x) (flat_map h xs), sum_by-cons (λ (z : X). sum_by g (h z)) x xs, rest)

-- the items of the numbers that pass are the items that pass
one_number : {X : Type 0} (test : X → Bool) (items : ℕ → List X) (n : ℕ) (ns : List ℕ) (o : Option X) (x : X) (xs : List X) → o ≡ Some x → items n ≡ x ∷ [] → flat_map items ns ≡ filter test xs
    → flat_map items (cond (option_map_or test o false) (n ∷ ns) ns) ≡ filter test (x ∷ xs)
one_number {X} test items n ns o x xs is here rest =
    ap (λ (p : Option X). flat_map items (cond (option_map_or test p false) (n ∷ ns) ns)) is
    ∙ elim (test x) as (λ b. flat_map items (cond b (n ∷ ns) ns) ≡ cond b (x ∷ filter test xs) (filter test xs)) [
      | true ↦ ap (λ (ys : List X). ys ++ flat_map items ns) here ∙ ap (λ (ys : List X). x ∷ ys) rest
      | false ↦ rest
    ]

from_range : {X : Type 0} (test : X → Bool) (at : ℕ → Option X) (xs : List X) (start : ℕ) → ((k : ℕ) → at (start + k) ≡ slice_get xs k)
    → flat_map (λ n. option_to_list (at n)) (filter (λ n. option_map_or test (at n) false) (range_with_len start (length xs))) ≡ filter test xs
from_range test at [] start same = refl
from_range {X} test at (x ∷ xs) start same =
    let here_is : start ≡ start + 0 = omega arith in
    let here : at start ≡ Some x = ap at here_is ∙ same 0 in
    let rest = from_range test at xs (start + 1) (λ k. let next : start + 1 + k ≡ start + suc k = omega arith in ap at next ∙ same (suc k)) in
    one_number test (λ n. option_to_list (at n)) start (filter (λ n. option_map_or test (at n) false) (range_with_len (start + 1) (length xs))) (at start) x xs here
    (ap (λ (o : Option X). option_to_list o) here) rest

pub by_numbers : {X : Type 0} (test : X → Bool) (xs : List X) → flat_map (λ n. option_to_list (slice_get xs n)) (filter (λ n. passes xs n test) (numbers xs)) ≡ filter test xs
by_numbers {X} test xs = from_range test (λ n. slice_get xs n) xs 0 (λ k. let is : 0 + k ≡ k = omega arith in ap (λ n. slice_get xs n) is)

-- an item and its number
enumerated_from : {X : Type 0} (start : ℕ) (xs : List X) (n : ℕ) → slice_get (enumerate_from start xs) n ≡ option_map (λ x. (start + n, x)) (slice_get xs n)
enumerated_from start [] n = refl
enumerated_from {X} start (x ∷ xs) zero = let is : start ≡ start + 0 = omega arith in ap (λ (k : ℕ). Some (k, x)) is
enumerated_from {X} start (x ∷ xs) (suc n) =
    let is : start + 1 + n ≡ start + suc n = omega arith in
    enumerated_from (start + 1) xs n ∙ ap (λ (k : ℕ). option_map (λ (y : X). (k, y)) (slice_get xs n)) is

pub enumerated : {X : Type 0} (xs : List X) (n : ℕ) → slice_get (enumerate_from 0 xs) n ≡ option_map (λ x. (n, x)) (slice_get xs n)
enumerated {X} xs n = let is : 0 + n ≡ n = omega arith in enumerated_from 0 xs n ∙ ap (λ (k : ℕ). option_map (λ (y : X). (k, y)) (slice_get xs n)) is

-- what holds of each item that another is mapped to, beside those that are mapped before it
pub each_after_mapped : {X Y : Type 0} (P : List Y → Y → Type 0) (f : X → Y) (xs : List X)
    → ((n : ℕ) (x : X) (before : List Y) → slice_get xs n ≡ Some x → ((y : Y) → Contains before y → (k : ℕ) × (k < n) × (z : X) × (slice_get xs k ≡ Some z) × (f z ≡ y)) → P before (f x))
    → EachAfter P (map f xs)
each_after_mapped {X} {Y} P f xs holds before item after split =
    let here = from_mapped f xs (length before) item (at_split (map f xs) before item after split) in
    subst (λ (y : Y). P before y) here.2 (holds (length before) here.0 before here.1 (λ y inside.
    let there = before_split (map f xs) before item after split y inside in
    let from = from_mapped f xs there.0 y there.2 in
    (there.0, there.1, from.0, from.1, from.2)))

-- an item that passes alone
pub only_one_at : {X : Type 0} (test : X → Bool) (xs : List X) (k : ℕ) (x : X) → slice_get xs k ≡ Some x → test x ≡ true → ((n : ℕ) (y : X) → slice_get xs n ≡ Some y → test y ≡ true → n ≡ k)
    → IsOnlyOne test xs x
only_one_at test [] k x at is only = cc
only_one_at {X} test (y ∷ xs) zero x at is only =
    let same : y ≡ x = cc in
    record {
      before = [];
      after = xs;
      stands = ap (λ (z : X). z ∷ xs) same;
      passes = is;
      none_before = All-nil (λ (z : X). test z ≡ false);
      none_after = all_in (λ (z : X). test z ≡ false) xs (λ z inside.
          let there = at_in xs z inside in
          false_from_ne_true (test z) (λ yes. let e : suc there.0 ≡ 0 = only (suc there.0) z there.1 yes in omega (arith, e)));
      found = ap (λ b. cond b (Some y) (find test xs)) (ap test same ∙ is) ∙ ap (λ (z : X). Some z) same;
    }
only_one_at {X} test (y ∷ xs) (suc k) x at is only =
    let rest = only_one_at test xs k x at is (λ n z there yes. let e : suc n ≡ suc k = only (suc n) z there yes in omega (arith, e)) in
    let head : test y ≡ false = false_from_ne_true (test y) (λ yes. let e : 0 ≡ suc k = only 0 y refl yes in omega (arith, e)) in
    record {
      before = y ∷ rest.before;
      after = rest.after;
      stands = ap (λ (zs : List X). y ∷ zs) rest.stands;
      passes = is;
      none_before = All-cons (λ (z : X). test z ≡ false) y rest.before head rest.none_before;
      none_after = rest.none_after;
      found = ap (λ b. cond b (Some y) (find test xs)) head ∙ rest.found;
    }

pub two_items : {X : Type 0} (xs : List X) → length xs ≡ 2 → (a : X) × (b : X) × (xs ≡ a ∷ b ∷ [])
two_items [] two = absurd (omega (arith, two))
two_items (a ∷ []) two = absurd (omega (arith, two))
two_items (a ∷ b ∷ []) two = (a, b, refl)
two_items (a ∷ b ∷ c ∷ rest) two = absurd (omega (arith, two))

-- the numbers of a range
pub numbers_below : (start n k : ℕ) → Contains (range_with_len start n) k → k < start + n
numbers_below start zero k inside = absurd (omega (arith, inside.1))
numbers_below start (suc n) k inside =
    elim (in_cons start (range_with_len (start + 1) n) k inside) [
      | inl same ↦ omega (arith, same)
      | inr later ↦ let rest = numbers_below (start + 1) n k later in omega (arith, rest)
    ]

pub map_twice : {X Y Z : Type 0} (g : Y → Z) (f : X → Y) (xs : List X) → map g (map f xs) ≡ map (λ x. g (f x)) xs
map_twice g f [] = refl
map_twice {X} {Y} {Z} g f (x ∷ xs) = ap (λ (zs : List Z). g (f x) ∷ zs) (map_twice g f xs)

pub length_enumerated : {X : Type 0} (start : ℕ) (xs : List X) → length (enumerate_from start xs) ≡ length xs
length_enumerated start [] = refl
length_enumerated start (x ∷ xs) = ap suc (length_enumerated (start + 1) xs)
