-- Sums over the numbers below another.
use Rattle.std.proofs.Common.{◌≡◌, ℕ, zero, suc, ◌+◌, ◌-◌, ◌*◌, ◌<◌, ◌≤◌, Bool, true, false, cond, eqb, ◌&&◌, List, [], ◌∷◌, refl, inl, inr, add-one, arith}
use Rattle.std.specs.List.{count_by}
use Rattle.std.proofs.lemmas.Bool.{cases_lt, cases_eq, ne_eqb, eq-eqb}
use Rattle.std.proofs.lemmas.List.Sums.{sum_by-cons}
use Rattle.grid_index.specs.Boxes.{total}

pub total-more : (f : ℕ → ℕ) (n : ℕ) → total f (n + 1) ≡ total f n + f n
total-more f n = rw add-one

pub total-le : (f : ℕ → ℕ) (m n : ℕ) → m ≤ n → total f m ≤ total f n
total-le f m zero less = let same : m ≡ 0 = omega arith in rw same (omega arith)
total-le f m (suc n) less =
    elim (cases_lt m (suc n)) [
      | inl before ↦ omega (arith, total-le f m n (omega arith))
      | inr here ↦ let same : m ≡ suc n = omega arith in rw same (omega arith)
    ]

-- a sum of parts
pub total-both : (f g h : ℕ → ℕ) → ((n : ℕ) → h n ≡ f n + g n) → (n : ℕ) → total h n ≡ total f n + total g n
total-both f g h both zero = refl
total-both f g h both (suc n) = omega (arith, both n, total-both f g h both n)

-- a sum that takes steps no greater than those of another function
pub total-steps : (f z : ℕ → ℕ) (first last : ℕ) → first ≤ last → ((n : ℕ) → first ≤ n → n < last → f n + z n ≤ z (n + 1))
    → total f last + z first ≤ z last + total f first
total-steps f z first zero ordered steps = let same : first ≡ 0 = omega arith in rw same (omega arith)
total-steps f z first (suc n) ordered steps =
    elim (cases_lt first (suc n)) [
      | inl before ↦
          let one : z (suc n) ≡ z (n + 1) = rw add-one in
          omega (arith, one, steps n (omega arith) (omega arith), total-steps f z first n (omega arith) (λ m low high. steps m low (omega arith)))
      | inr here ↦ let same : first ≡ suc n = omega arith in rw same (omega arith)
    ]

pub total-one : (n : ℕ) → total (λ _. 1) n ≡ n
total-one zero = refl
total-one (suc n) = omega (arith, total-one n)

total-none : (n : ℕ) → total (λ _. 0) n ≡ 0
total-none zero = refl
total-none (suc n) = omega (arith, total-none n)

-- whether something has a key, and passes
abbrev pub has : {X : Type 0} → (key : X → ℕ) (test : X → Bool) → ℕ → X → Bool
has key test n x = eqb (key x) n && test x

abbrev pub one_if : Bool → ℕ
one_if b = cond b 1 0

other : (k n : ℕ) (b : Bool) → (k ≡ n → ⊥) → one_if (eqb k n && b) ≡ 0
other k n b apart = rw (ne_eqb k n apart)

at_most : (t b : Bool) → one_if (t && b) ≤ one_if b
at_most true b = omega arith
at_most false true = omega arith
at_most false false = omega arith

not_yet : (k : ℕ) (b : Bool) (n : ℕ) → n ≤ k → total (λ m. one_if (eqb k m && b)) n ≡ 0
not_yet k b zero before = refl
not_yet k b (suc n) before = omega (arith, other k n b (λ same. omega arith), not_yet k b n (omega arith))

once : (k : ℕ) (b : Bool) (n : ℕ) → total (λ m. one_if (eqb k m && b)) n ≤ one_if b
once k b zero = omega arith
once k b (suc n) =
    elim (cases_lt k n) [
      | inl past ↦ omega (arith, other k n b (λ same. omega arith), once k b n)
      | inr before ↦ omega (arith, not_yet k b n before, at_most (eqb k n) b)
    ]

-- counted key by key, at most all that pass are counted
pub counted_once : {X : Type 0} (key : X → ℕ) (test : X → Bool) (xs : List X) (n : ℕ)
    → total (λ m. count_by (has key test m) xs) n ≤ count_by test xs
counted_once key test [] n = omega (arith, total-none n)
counted_once key test (x ∷ xs) n =
    let both = total-both (λ m. one_if (has key test m x)) (λ m. count_by (has key test m) xs) (λ m. count_by (has key test m) (x ∷ xs)) (λ m. sum_by-cons (λ y. one_if (has key test m y)) x xs) n in
    omega (arith, both, once (key x) (test x) n, counted_once key test xs n, sum_by-cons (λ y. one_if (test y)) x xs)
