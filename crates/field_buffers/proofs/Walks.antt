-- A walk over the places of a list: what is looked for in the rest is looked for in the whole.
use Rattle.std.proofs.Common.{◌≡◌, ℕ, zero, suc, ◌+◌, ◌<◌, ◌≤◌, Bool, true, false, cond, List, ◌∷◌, take, drop, length, get_or, find, position, Some, None, All, arith, ap, sym, ◌∙◌}
use Rattle.std.specs.List.{position_from}
use Rattle.std.proofs.lemmas.List.{drop_more, drop_all, take_more, take_all}
use Rattle.std.proofs.lemmas.List.Elements.{All-push}
use Rattle.std.proofs.lemmas.Iterator.Adapters.{position_from-zero}

-- one more place of which something holds
pub All-more : {X : Type 0} (P : X → Type 0) (xs : List X) (i : ℕ) (d : X) → i < length xs → All P (take i xs) → P (get_or xs i d) → All P (take (i + 1) xs)
All-more P xs i d inside before here = rw (take_more xs i d inside) (All-push P (take i xs) (get_or xs i d) before here)

pub All-whole : {X : Type 0} (P : X → Type 0) (xs : List X) (i : ℕ) → length xs ≤ i → All P (take i xs) → All P xs
All-whole P xs i past before = rw (take_all i xs past) at before

-- past a place where the test fails, and at one where it passes
pub find-next : {X : Type 0} (test : X → Bool) (xs : List X) (i : ℕ) (d : X) → i < length xs → test (get_or xs i d) ≡ false → find test (drop i xs) ≡ find test xs
    → find test (drop (i + 1) xs) ≡ find test xs
find-next test xs i d inside fails before =
    sym (ap (find test) (drop_more xs i d inside) ∙ ap (λ b. cond b (Some (get_or xs i d)) (find test (drop (i + 1) xs))) fails) ∙ before

pub find-passes : {X : Type 0} (test : X → Bool) (xs : List X) (i : ℕ) (d : X) → i < length xs → test (get_or xs i d) ≡ true → find test (drop i xs) ≡ find test xs
    → Some (get_or xs i d) ≡ find test xs
find-passes test xs i d inside passes before =
    sym (ap (find test) (drop_more xs i d inside) ∙ ap (λ b. cond b (Some (get_or xs i d)) (find test (drop (i + 1) xs))) passes) ∙ before

pub find-past : {X : Type 0} (test : X → Bool) (xs : List X) (i : ℕ) → length xs ≤ i → find test (drop i xs) ≡ find test xs → None ≡ find test xs
find-past test xs i past before = sym (ap (find test) (drop_all i xs past)) ∙ before

-- the same of the place
pub position-front : {X : Type 0} (test : X → Bool) (xs : List X) → position_from test 0 xs ≡ position test xs
position-front test xs = sym (position_from-zero test xs)

pub position-next : {X : Type 0} (test : X → Bool) (xs : List X) (i : ℕ) (d : X) → i < length xs → test (get_or xs i d) ≡ false → position_from test i (drop i xs) ≡ position test xs
    → position_from test (i + 1) (drop (i + 1) xs) ≡ position test xs
position-next test xs i d inside fails before =
    sym (ap (position_from test i) (drop_more xs i d inside) ∙ ap (λ b. cond b (Some i) (position_from test (i + 1) (drop (i + 1) xs))) fails) ∙ before

pub position-reached : {X : Type 0} (test : X → Bool) (xs : List X) (d : X) (i : ℕ) → i ≤ length xs → ((k : ℕ) → k < i → test (get_or xs k d) ≡ false)
    → position_from test i (drop i xs) ≡ position test xs
position-reached test xs d zero inside fails = position-front test xs
position-reached test xs d (suc i) inside fails =
    let same : suc i ≡ i + 1 = omega arith in
    ap (λ k. position_from test k (drop k xs)) same
    ∙ position-next test xs i d (omega arith) (fails i (omega arith)) (position-reached test xs d i (omega arith) (λ k below. fails k (omega arith)))

pub position-passes : {X : Type 0} (test : X → Bool) (xs : List X) (i : ℕ) (d : X) → i < length xs → test (get_or xs i d) ≡ true → position_from test i (drop i xs) ≡ position test xs
    → Some i ≡ position test xs
position-passes test xs i d inside passes before =
    sym (ap (position_from test i) (drop_more xs i d inside) ∙ ap (λ b. cond b (Some i) (position_from test (i + 1) (drop (i + 1) xs))) passes) ∙ before

pub position-past : {X : Type 0} (test : X → Bool) (xs : List X) (i : ℕ) → length xs ≤ i → position_from test i (drop i xs) ≡ position test xs → None ≡ position test xs
position-past test xs i past before = sym (ap (position_from test i) (drop_all i xs past)) ∙ before
