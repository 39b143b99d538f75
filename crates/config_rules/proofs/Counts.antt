-- Counts and searches over the lists that a scheme's members stand in.
use Rattle.std.proofs.Common.{◌≡◌, ℕ, ◌+◌, Bool, true, false, ◌||◌, List, [], ◌∷◌, ◌++◌, cond, position, refl, ap, sym, ◌∙◌, arith}
use Rattle.std.specs.Prelude.{count_by, nat_lt}
use Rattle.std.specs.List.{list_any, position_from}
use Rattle.std.proofs.lemmas.Bool.{lt-ltb}
use Rattle.std.proofs.lemmas.List.Folds.{list_any-append}
use Rattle.std.proofs.lemmas.List.Sums.{sum_by-append, sum_by-cons}
use Rattle.std.proofs.lemmas.Iterator.Adapters.{position_from-zero}

counted_both : {X : Type 0} (p : X → Bool) (xs ys : List X) → count_by p (xs ++ ys) ≡ count_by p xs + count_by p ys
counted_both p xs ys = sum_by-append (λ x. cond (p x) 1 0) xs ys

pub counted_in_turn : {X : Type 0} (p : X → Bool) (xs ys zs : List X) → count_by p (xs ++ ys ++ zs) ≡ count_by p xs + count_by p ys + count_by p zs
counted_in_turn p xs ys zs = counted_both p (xs ++ ys) zs ∙ ap (λ n. n + count_by p zs) (counted_both p xs ys)

pub found_in_turn : {X : Type 0} (p : X → Bool) (xs ys zs : List X) → list_any p (xs ++ ys ++ zs) ≡ ((list_any p xs || list_any p ys) || list_any p zs)
found_in_turn p xs ys zs = list_any-append p (xs ++ ys) zs ∙ ap (λ b. b || list_any p zs) (list_any-append p xs ys)

some_one : (b : Bool) (n : ℕ) (any : Bool) → nat_lt 0 n ≡ any → nat_lt 0 (cond b 1 0 + n) ≡ (b || any)
some_one true n any h = lt-ltb 0 (1 + n) (omega arith)
some_one false n any h = let same : 0 + n ≡ n = omega arith in ap (nat_lt 0) same ∙ h

-- some are counted where one is found
pub some_counted : {X : Type 0} (p : X → Bool) (xs : List X) → nat_lt 0 (count_by p xs) ≡ list_any p xs
some_counted p [] = refl
some_counted p (x ∷ xs) = ap (nat_lt 0) (sum_by-cons (λ y. cond (p y) 1 0) x xs) ∙ some_one (p x) (count_by p xs) (list_any p xs) (some_counted p xs)

-- the first place where a test passes is looked for from the front
pub from_front : {X : Type 0} (test : X → Bool) (xs : List X) → position_from test 0 xs ≡ position test xs
from_front test xs = sym (position_from-zero test xs)
