-- The first place where a test passes, in other words.
use Rattle.std.proofs.Common.{◌≡◌, ℕ, ◌<◌, Bool, true, false, cond, nat_lt, List, [], ◌∷◌, length, Some, None, position, All, HoldsAt, inl, inr, refl, ap, sym, ◌∙◌, arith}
use Rattle.std.specs.List.{AllWithin, position_or_len}
use Rattle.std.proofs.lemmas.Bool.{cases_lt, lt-ltb, le-ltb}
use Rattle.std.proofs.lemmas.List.Sums.{position_or_len_is, fails_before_first}
use Rattle.std.proofs.lemmas.List.Quantifiers.{position-Some}

-- what is found
pub record IsFirst {X : Type 0} (test : X → Bool) (xs : List X) (i : ℕ) : Type 0 where
  pub inside : i < length xs
  pub passes : HoldsAt (λ x. test x ≡ true) xs i
  pub first : AllWithin (λ x. test x ≡ false) xs 0 i

pub found : {X : Type 0} (test : X → Bool) (xs : List X) (i : ℕ) → position test xs ≡ Some i → IsFirst test xs i
found test [] i is = absurd (cc)
found test (y ∷ ys) i is =
    record {
      inside = (position-Some test (y ∷ ys) i y is).0;
      passes = λ d. (position-Some test (y ∷ ys) i d is).1;
      first = λ k d _ before. (position-Some test (y ∷ ys) i d is).2 k before;
    }

-- the place is the one that is found
pub finds : {X : Type 0} (test : X → Bool) (xs : List X) (i : ℕ) → IsFirst test xs i → position test xs ≡ Some i
finds test [] i is = absurd (omega (arith, is.inside))
finds test (y ∷ ys) i is =
    let at = position_or_len_is test (y ∷ ys) i y (omega (arith, is.inside)) (λ k before. is.first k y (omega arith) before) (λ _. is.passes y) in
    ap (λ n. cond (nat_lt n (length (y ∷ ys))) (Some n) None) at ∙ ap (λ b. cond b (Some i) None) (lt-ltb i (length (y ∷ ys)) is.inside)

-- where none is found, all fail
pub none_passes : {X : Type 0} (test : X → Bool) (xs : List X) → position test xs ≡ None → All (λ x. test x ≡ false) xs
none_passes test xs none = λ k d inside.
    elim (cases_lt (position_or_len test xs) (length xs)) [
      | inl within ↦
          let one : Some (position_or_len test xs) ≡ None = sym (ap (λ b. cond b (Some (position_or_len test xs)) None) (lt-ltb (position_or_len test xs) (length xs) within)) ∙ none in
          absurd (cc)
      | inr past ↦ fails_before_first test xs k d (omega arith)
    ]

pub finds_none : {X : Type 0} (test : X → Bool) (xs : List X) → All (λ x. test x ≡ false) xs → position test xs ≡ None
finds_none test [] all = refl
finds_none test (y ∷ ys) all =
    let end = length (y ∷ ys) in
    let at = position_or_len_is test (y ∷ ys) end y (omega arith) (λ k before. all k y before) (λ past. absurd (omega arith)) in
    ap (λ n. cond (nat_lt n end) (Some n) None) at ∙ ap (λ b. cond b (Some end) None) (le-ltb end end (omega arith))
