-- A loop over the places of a list: what is answered for all of it is answered for what is left.
use Rattle.std.proofs.Common.{◌≡◌, ℕ, ◌+◌, Bool, true, false, ◌&&◌, ◌||◌, List, ◌∷◌, drop, slice_get, Some, cond, position, ap, sym, ◌∙◌}
use Rattle.std.specs.List.{list_all, list_any, position_from}
use Rattle.std.proofs.lemmas.List.{drop_more}
use Rattle.std.proofs.lemmas.Option.{slice_get_within, get_or_from_slice_get}
use Rattle.std.proofs.lemmas.Iterator.Adapters.{position_from-zero}

-- what is left from a place on begins with what stands there
drop_at : {X : Type 0} → (xs : List X) (i : ℕ) (x : X) → slice_get xs i ≡ Some x → drop i xs ≡ x ∷ drop (i + 1) xs
drop_at xs i x is =
    drop_more xs i x (slice_get_within xs i x is) ∙ ap (λ y. y ∷ drop (i + 1) xs) (get_or_from_slice_get xs i x x is)

pub list_all-next : {X : Type 0} (test : X → Bool) (xs : List X) (i : ℕ) (x : X) → slice_get xs i ≡ Some x → test x ≡ true → list_all test (drop i xs) ≡ list_all test xs
    → list_all test (drop (i + 1) xs) ≡ list_all test xs
list_all-next test xs i x is passes before =
    sym (ap (list_all test) (drop_at xs i x is) ∙ ap (λ b. b && list_all test (drop (i + 1) xs)) passes) ∙ before

pub list_all-fails : {X : Type 0} (test : X → Bool) (xs : List X) (i : ℕ) (x : X) → slice_get xs i ≡ Some x → test x ≡ false → list_all test (drop i xs) ≡ list_all test xs
    → false ≡ list_all test xs
list_all-fails test xs i x is fails before =
    sym (ap (list_all test) (drop_at xs i x is) ∙ ap (λ b. b && list_all test (drop (i + 1) xs)) fails) ∙ before

pub list_any-next : {X : Type 0} (test : X → Bool) (xs : List X) (i : ℕ) (x : X) → slice_get xs i ≡ Some x → test x ≡ false → list_any test (drop i xs) ≡ list_any test xs
    → list_any test (drop (i + 1) xs) ≡ list_any test xs
list_any-next test xs i x is fails before =
    sym (ap (list_any test) (drop_at xs i x is) ∙ ap (λ b. b || list_any test (drop (i + 1) xs)) fails) ∙ before

pub list_any-passes : {X : Type 0} (test : X → Bool) (xs : List X) (i : ℕ) (x : X) → slice_get xs i ≡ Some x → test x ≡ true → list_any test (drop i xs) ≡ list_any test xs
    → true ≡ list_any test xs
list_any-passes test xs i x is passes before =
    sym (ap (list_any test) (drop_at xs i x is) ∙ ap (λ b. b || list_any test (drop (i + 1) xs)) passes) ∙ before

-- the first place where a test passes is looked for from the front
pub position-from_front : {X : Type 0} (test : X → Bool) (xs : List X) → position_from test 0 xs ≡ position test xs
position-from_front test xs = sym (position_from-zero test xs)

pub position-next : {X : Type 0} (test : X → Bool) (xs : List X) (i : ℕ) (x : X) → slice_get xs i ≡ Some x → test x ≡ false → position_from test i (drop i xs) ≡ position test xs
    → position_from test (i + 1) (drop (i + 1) xs) ≡ position test xs
position-next test xs i x is fails before =
    sym (ap (position_from test i) (drop_at xs i x is) ∙ ap (λ b. cond b (Some i) (position_from test (i + 1) (drop (i + 1) xs))) fails) ∙ before

pub position-passes : {X : Type 0} (test : X → Bool) (xs : List X) (i : ℕ) (x : X) → slice_get xs i ≡ Some x → test x ≡ true → position_from test i (drop i xs) ≡ position test xs
    → Some i ≡ position test xs
position-passes test xs i x is passes before =
    sym (ap (position_from test i) (drop_at xs i x is) ∙ ap (λ b. cond b (Some i) (position_from test (i + 1) (drop (i + 1) xs))) passes) ∙ before
