-- Lists that are made of others, item by item, and what is found in them.
use Rattle.std.proofs.Common.{◌≡◌, ℕ, zero, suc, ◌+◌, Bool, true, false, cond, List, [], ◌∷◌, length, map, find, position, option_map, Option, Some, None, All, refl, ap, sym, subst, ◌∙◌, arith}
use Rattle.std.specs.Prelude.{slice_get, Contains}
use Rattle.std.specs.List.{list_all, position_or_len, enumerate_from}
use Rattle.std.proofs.lemmas.Bool.{and_from, lt-ltb}
use Rattle.std.proofs.lemmas.Option.{slice_get-map, slice_get_within, get_or_from_slice_get}
use Rattle.std.proofs.lemmas.List.Elements.{All-head, All-tail}
use Rattle.std.proofs.lemmas.List.Folds.{find_at, list_all-map}
use Rattle.cpl_plan.specs.PlanWords.{each}
use Rattle.cpl_plan.proofs.Readings.{each_from}

pub same_some : {X : Type 0} {x y : X} → Some x ≡ Some y → x ≡ y
same_some e = cc

pub none_some : {X : Type 0} {x : X} → None ≡ Some x → ⊥
none_some e = cc

-- tests that tell each other are one
pub same_bool : (p q : Bool) → (p ≡ true → q ≡ true) → (q ≡ true → p ≡ true) → p ≡ q
same_bool true q there back = sym (there refl)
same_bool false true there back = back refl
same_bool false false there back = refl

-- what holds of each item holds of the one of a number
pub all_at : {X : Type 0} (P : X → Type 0) (xs : List X) (n : ℕ) (x : X) → All P xs → slice_get xs n ≡ Some x → P x
all_at P xs n x all is = subst P (get_or_from_slice_get xs n x x is) (all n x (slice_get_within xs n x is))

-- a test that each item passes
pub all_test : {X : Type 0} (test : X → Bool) (xs : List X) → All (λ x. test x ≡ true) xs → list_all test xs ≡ true
all_test test [] all = refl
all_test {X} test (x ∷ xs) all =
    and_from (test x) (list_all test xs) (All-head (λ (y : X). test y ≡ true) x xs all) (all_test test xs (All-tail (λ (y : X). test y ≡ true) x xs all))

pub all_map : {X Y : Type 0} (f : X → Y) (test : Y → Bool) (xs : List X) → All (λ x. test (f x) ≡ true) xs → list_all test (map f xs) ≡ true
all_map f test xs all = list_all-map test f xs ∙ all_test (λ x. test (f x)) xs all

-- what is made of the item of a number
pub map_at : {X Y : Type 0} (f : X → Y) (xs : List X) (n : ℕ) (x : X) → slice_get xs n ≡ Some x → slice_get (map f xs) n ≡ Some (f x)
map_at f xs n x is = slice_get-map f xs n ∙ ap (option_map f) is

made_of : {X Y : Type 0} (f : X → Y) (o : Option X) (y : Y) → option_map f o ≡ Some y → (x : X) × (o ≡ Some x) × (y ≡ f x)
made_of f None y is = absurd (none_some is)
made_of f (Some x) y is = (x, refl, sym (same_some is))

pub at_map : {X Y : Type 0} (f : X → Y) (xs : List X) (n : ℕ) (y : Y) → slice_get (map f xs) n ≡ Some y → (x : X) × (slice_get xs n ≡ Some x) × (y ≡ f x)
at_map f xs n y is = made_of f (slice_get xs n) y (sym (slice_get-map f xs n) ∙ is)

pub each_map : {X Y : Type 0} (f : X → Y) (xs : List X) (test : ℕ → Y → Bool) → ((n : ℕ) (x : X) → slice_get xs n ≡ Some x → test n (f x) ≡ true) → each (map f xs) test ≡ true
each_map {X} {Y} f xs test holds =
    each_from test (map f xs) (λ n y is. let found = at_map f xs n y is in subst (λ (z : Y). test n z ≡ true) (sym found.2) (holds n found.0 found.1))

-- an item with its number
pub enumerated : {X : Type 0} (start : ℕ) (xs : List X) (n : ℕ) (x : X) → slice_get xs n ≡ Some x → slice_get (enumerate_from start xs) n ≡ Some (start + n, x)
enumerated start [] n x is = absurd (none_some is)
enumerated {X} start (y ∷ xs) zero x is =
    let same : y ≡ x = same_some is in
    let here : start ≡ start + 0 = omega (arith) in
    ap (λ (z : X). Some (start, z)) same ∙ ap (λ (k : ℕ). Some (k, x)) here
enumerated {X} start (y ∷ xs) (suc n) x is =
    let there : start + 1 + n ≡ start + suc n = omega (arith) in
    enumerated (start + 1) xs n x is ∙ ap (λ (k : ℕ). Some (k, x)) there

pub from_enumerated : {X : Type 0} (start : ℕ) (xs : List X) (n : ℕ) (p : ℕ × X) → slice_get (enumerate_from start xs) n ≡ Some p → (slice_get xs n ≡ Some p.1) × (p ≡ (start + n, p.1))
from_enumerated start [] n p is = absurd (none_some is)
from_enumerated {X} start (y ∷ xs) zero p is =
    let same : (start, y) ≡ p = same_some is in
    let item : y ≡ p.1 = ap (λ (q : ℕ × X). q.1) same in
    let here : start ≡ start + 0 = omega (arith) in
    (ap Some item, sym same ∙ (ap (λ (k : ℕ). (k, y)) here ∙ ap (λ (z : X). (start + 0, z)) item))
from_enumerated {X} start (y ∷ xs) (suc n) p is =
    let later = from_enumerated (start + 1) xs n p is in
    let there : start + 1 + n ≡ start + suc n = omega (arith) in
    (later.0, later.1 ∙ ap (λ (k : ℕ). (k, p.1)) there)

pub each_numbered : {X Y : Type 0} (f : ℕ × X → Y) (xs : List X) (test : ℕ → Y → Bool) → ((n : ℕ) (x : X) → slice_get xs n ≡ Some x → test n (f (n, x)) ≡ true)
    → each (map f (enumerate_from 0 xs)) test ≡ true
each_numbered {X} f xs test holds =
    each_map f (enumerate_from 0 xs) test (λ n p is.
    let found = from_enumerated 0 xs n p is in
    let zero_on : 0 + n ≡ n = omega (arith) in
    let same : p ≡ (n, p.1) = found.1 ∙ ap (λ (k : ℕ). (k, p.1)) zero_on in
    subst (λ (q : ℕ × X). test n (f q) ≡ true) (sym same) (holds n p.1 found.0))

pub numbered_at : {X Y : Type 0} (f : ℕ × X → Y) (xs : List X) (n : ℕ) (x : X) → slice_get xs n ≡ Some x → slice_get (map f (enumerate_from 0 xs)) n ≡ Some (f (n, x))
numbered_at {X} f xs n x is =
    let zero_on : 0 + n ≡ n = omega (arith) in
    map_at f (enumerate_from 0 xs) n (0 + n, x) (enumerated 0 xs n x is) ∙ ap (λ (k : ℕ). Some (f (k, x))) zero_on

pub at_numbered : {X Y : Type 0} (f : ℕ × X → Y) (xs : List X) (n : ℕ) (y : Y) → slice_get (map f (enumerate_from 0 xs)) n ≡ Some y → (x : X) × (slice_get xs n ≡ Some x) × (y ≡ f (n, x))
at_numbered {X} f xs n y is =
    let found = at_map f (enumerate_from 0 xs) n y is in
    let item = from_enumerated 0 xs n found.0 found.1 in
    let zero_on : 0 + n ≡ n = omega (arith) in
    (found.0.1, item.0, found.2 ∙ ap f (item.1 ∙ ap (λ (k : ℕ). (k, found.0.1)) zero_on))

-- what is found passes
passes_here : {X : Type 0} (p : X → Bool) (y x : X) (rest : Option X) (b : Bool) → p y ≡ b → cond b (Some y) rest ≡ Some x → (rest ≡ Some x → p x ≡ true) → p x ≡ true
passes_here {X} p y x rest true holds is later = subst (λ (z : X). p z ≡ true) (same_some is) holds
passes_here p y x rest false fails is later = later is

pub found_passes : {X : Type 0} (p : X → Bool) (xs : List X) (x : X) → find p xs ≡ Some x → p x ≡ true
found_passes p [] x is = absurd (none_some is)
found_passes p (y ∷ xs) x is = passes_here p y x (find p xs) (p y) refl is (found_passes p xs x)

-- the place of what is found
pub found_place : {X : Type 0} (p : X → Bool) (xs : List X) (x : X) → find p xs ≡ Some x → (n : ℕ) × (position p xs ≡ Some n) × (slice_get xs n ≡ Some x)
found_place p xs x is =
    let at : slice_get xs (position_or_len p xs) ≡ Some x = sym (find_at p xs) ∙ is in
    (position_or_len p xs, ap (λ b. cond b (Some (position_or_len p xs)) None) (lt-ltb (position_or_len p xs) (length xs) (slice_get_within xs (position_or_len p xs) x at)), at)

found_at : {X : Type 0} (p : X → Bool) (y x : X) (b : Bool) (rest : Option X) → p x ≡ true → y ≡ x → p y ≡ b → (z : X) × (cond b (Some y) rest ≡ Some z)
found_at p y x true rest holds same is = (y, refl)
found_at p y x false rest holds same is = absurd (cc)

found_later : {X : Type 0} (y : X) (b : Bool) (rest : Option X) → (z : X) × (rest ≡ Some z) → (z : X) × (cond b (Some y) rest ≡ Some z)
found_later y true rest found = (y, refl)
found_later y false rest found = found

-- where an item passes one is found
pub found_by : {X : Type 0} (p : X → Bool) (xs : List X) (n : ℕ) (x : X) → slice_get xs n ≡ Some x → p x ≡ true → (z : X) × (find p xs ≡ Some z)
found_by p [] n x is holds = absurd (none_some is)
found_by p (y ∷ xs) zero x is holds = found_at p y x (p y) (find p xs) holds (same_some is) refl
found_by p (y ∷ xs) (suc n) x is holds = found_later y (p y) (find p xs) (found_by p xs n x is holds)

-- an item of a number is in the list
pub at_in : {X : Type 0} (xs : List X) (n : ℕ) (x : X) → slice_get xs n ≡ Some x → Contains xs x
at_in xs n x is = (n, slice_get_within xs n x is, get_or_from_slice_get xs n x x is)
