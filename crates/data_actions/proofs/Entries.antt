-- Entries that stand one after the other have no place in common.
use Rattle.std.proofs.Common.{◌≡◌, ◌≢◌, ℕ, zero, suc, ◌+◌, ◌<◌, ◌≤◌, ◌&&◌, Bool, true, false, cond, nat_le, nat_lt, List, [], ◌∷◌, length, get_or, map, take, All, refl, sym, ap, inl, inr, ◌∙◌, arith}
use Rattle.std.specs.List.{AllPairs, count_by, sum}
use Rattle.std.proofs.Math.Seq.{take-nil}
use Rattle.std.proofs.lemmas.Bool.{cases_order}
use Rattle.std.proofs.lemmas.Bool.Decides.{nat_tests}
use Rattle.std.proofs.lemmas.List.{take_all, length-map}
use Rattle.std.proofs.lemmas.List.Elements.{All-head, All-tail, All-map}
use Rattle.std.proofs.lemmas.List.Folds.{list_any_none}
use Rattle.std.proofs.lemmas.List.Sums.{sum_by-cons}
use Rattle.data_actions.specs.declared.sums.Sum.{Sum}
use Rattle.data_actions.specs.SummedValues.{makes, is_made}
use Rattle.data_actions.specs.SoundSums.{IsSumOf, AreSums}
use Rattle.data_actions.specs.EntrySums.{EntrySum, place_of, sum_of_entries, IsEntrySum, AreEntrySums}
use Rattle.data_actions.proofs.Stretches.{makes_within}

-- an entry ends where a later one begins, or before
before_next : (lengths : List ℕ) (i j : ℕ) → i < j → place_of lengths i + get_or lengths i 0 ≤ place_of lengths j
before_next [] i j h = rw (take-nil i, take-nil j) (omega arith)
before_next (x ∷ xs) i zero h = absurd (omega (arith, h))
before_next (x ∷ xs) zero (suc j) h =
    let behind : sum (x ∷ take j xs) ≡ x + sum (take j xs) = sum_by-cons (λ (n : ℕ). n) x (take j xs) in
    rw behind (omega arith)
before_next (x ∷ xs) (suc i) (suc j) h =
    let first : sum (x ∷ take i xs) ≡ x + sum (take i xs) = sum_by-cons (λ (n : ℕ). n) x (take i xs) in
    let second : sum (x ∷ take j xs) ≡ x + sum (take j xs) = sum_by-cons (λ (n : ℕ). n) x (take j xs) in
    let rest = before_next xs i j (omega (arith, h)) in
    rw (first, second) (omega (arith, rest))

-- and all end before the end
within_all : (lengths : List ℕ) (i : ℕ) → i < length lengths → place_of lengths i + get_or lengths i 0 ≤ sum lengths
within_all lengths i h = rw (take_all (length lengths) lengths (omega arith)) at (before_next lengths i (length lengths) h)

stretch_behind : (a la b lb p : ℕ) → a + la ≤ b → (nat_le a p && nat_lt p (a + la)) ≡ true → (nat_le b p && nat_lt p (b + lb)) ≡ false
stretch_behind a la b lb p h here = grind (arith, nat_tests)

stretch_before : (a la b lb p : ℕ) → b + lb ≤ a → (nat_le a p && nat_lt p (a + la)) ≡ true → (nat_le b p && nat_lt p (b + lb)) ≡ false
stretch_before a la b lb p h here = grind (arith, nat_tests)

-- whether the place is one of the entry's
abbrev is_of : List ℕ → (entry place : ℕ) → Bool
is_of lengths entry place = nat_le (place_of lengths entry) place && nat_lt place (place_of lengths entry + get_or lengths entry 0)

disjoint : (lengths : List ℕ) (i j place : ℕ) → i ≢ j → is_of lengths i place ≡ true → is_of lengths j place ≡ false
disjoint lengths i j place differ here =
    elim (cases_order i j) [
      | inl same ↦ absurd (differ same)
      | inr (inl h) ↦
          stretch_behind (place_of lengths i) (get_or lengths i 0) (place_of lengths j) (get_or lengths j 0) place (before_next lengths i j h) here
      | inr (inr h) ↦
          stretch_before (place_of lengths i) (get_or lengths i 0) (place_of lengths j) (get_or lengths j 0) place (before_next lengths j i h) here
    ]

count_none : {X : Type 0} (test : X → Bool) (xs : List X) → All (λ x. test x ≡ false) xs → count_by test xs ≡ 0
count_none test [] none = refl
count_none {X} test (x ∷ xs) none =
    let P : X → Type 0 = λ x. test x ≡ false in
    sum_by-cons (λ (x : X). cond (test x) 1 0) x xs
    ∙ ap (λ (b : Bool). cond b 1 0 + count_by test xs) (All-head P x xs none)
    ∙ ap (λ (n : ℕ). 0 + n) (count_none test xs (All-tail P x xs none))

-- where of two items at most one passes, at most one of all does
count_once : {X : Type 0} (test : X → Bool) (R : X → X → Type 0) (xs : List X) → ((x y : X) → R x y → test x ≡ true → test y ≡ false) → AllPairs R xs
    → count_by test xs ≤ 1
count_once test R [] other pairs = omega arith
count_once {X} test R (x ∷ xs) other pairs =
    let rest = count_once test R xs other (λ i j d h l. pairs (suc i) (suc j) d (omega (arith, h)) (omega (arith, l))) in
    let here : (b : Bool) → test x ≡ b → cond b 1 0 + count_by test xs ≤ 1 =
    elim [
      | true ↦ λ passes.
          let none : count_by test xs ≡ 0 =
          count_none test xs (λ k d l. other x (get_or xs k d) (pairs 0 (suc k) d (omega arith) (omega (arith, l))) passes) in
          omega (arith, none)
      | false ↦ λ _. omega (arith, rest)
    ] in
    rw (sum_by-cons (λ (x : X). cond (test x) 1 0) x xs) (here (test x) refl)

count_map : {X Y : Type 0} (test : Y → Bool) (f : X → Y) (xs : List X) → count_by test (map f xs) ≡ count_by (λ x. test (f x)) xs
count_map test f [] = refl
count_map {X} {Y} test f (x ∷ xs) =
    sum_by-cons (λ (y : Y). cond (test y) 1 0) (f x) (map f xs)
    ∙ ap (λ (n : ℕ). cond (test (f x)) 1 0 + n) (count_map test f xs)
    ∙ sym (sum_by-cons (λ (x : X). cond (test (f x)) 1 0) x xs)

is_sum : (lengths : List ℕ) (one : EntrySum) → IsEntrySum lengths one → IsSumOf (sum lengths) (sum_of_entries lengths one)
is_sum lengths one sound =
    record {
      target = within_all lengths one.target sound.target;
      sources = All-map (λ (source : ℕ). source + get_or lengths one.target 0 ≤ sum lengths) (place_of lengths) one.sources
          (λ k d h.
          let n = get_or one.sources k d in
          let same : get_or lengths n 0 ≡ get_or lengths one.target 0 = sound.alike k d h in
          rw same at (within_all lengths n (sound.sources k d h)));
      few = rw length-map sound.few;
    }

-- a source has no place of a target
source_apart : (lengths : List ℕ) (sums : List EntrySum) (source size offset : ℕ) → get_or lengths source 0 ≡ size → offset < size
    → All (λ (other : EntrySum). source ≢ other.target) sums → is_made (map (sum_of_entries lengths) sums) (place_of lengths source + offset) ≡ false
source_apart lengths sums source size offset same h apart =
    let place = place_of lengths source + offset in
    let here : is_of lengths source place ≡ true = makes_within (place_of lengths source) offset (get_or lengths source 0) (rw same h) in
    list_any_none (makes place) (map (sum_of_entries lengths) sums)
    (All-map (λ (sum : Sum). makes place sum ≡ false) (sum_of_entries lengths) sums
    (λ k d l. disjoint lengths source (get_or sums k d).target place (apart k d l) here))

pub entry_sums : (lengths : List ℕ) (sums : List EntrySum) → AreEntrySums lengths sums → AreSums (sum lengths) (map (sum_of_entries lengths) sums)
entry_sums lengths sums sound =
    let all = map (sum_of_entries lengths) sums in
    record {
      in_range = All-map (IsSumOf (sum lengths)) (sum_of_entries lengths) sums (λ k d h. is_sum lengths (get_or sums k d) (sound.each k d h));
      once = λ place.
          rw (count_map (makes place) (sum_of_entries lengths) sums)
          (count_once (λ (one : EntrySum). makes place (sum_of_entries lengths one)) (λ one other. one.target ≢ other.target) sums
          (λ one other differ here. disjoint lengths one.target other.target place differ here) sound.once);
      apart =
          All-map (λ (one : Sum). All (λ source. (offset : ℕ) → offset < one.length → is_made all (source + offset) ≡ false) one.sources)
          (sum_of_entries lengths) sums
          (λ k d h.
          let one = get_or sums k d in
          All-map (λ (source : ℕ). (offset : ℕ) → offset < get_or lengths one.target 0 → is_made all (source + offset) ≡ false) (place_of lengths) one.sources
          (λ n e l offset below. source_apart lengths sums (get_or one.sources n e) (get_or lengths one.target 0) offset ((sound.each k d h).alike n e l) below
          (λ m f i. sound.apart k d h m f i n e l)));
    }
