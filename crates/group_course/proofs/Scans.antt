-- A place that is looked for from the front on.
use Rattle.std.proofs.Common.{◌≡◌, ℕ, ◌+◌, Bool, true, false, List, ◌∷◌, drop, slice_get, Some, cond, position, ap, sym, ◌∙◌}
use Rattle.std.specs.List.{position_from}
use Rattle.std.proofs.lemmas.List.{drop_more}
use Rattle.std.proofs.lemmas.Option.{slice_get_within, get_or_from_slice_get}
use Rattle.std.proofs.lemmas.Iterator.Adapters.{position_from-zero}

drop_at : (xs : List ℕ) (i x : ℕ) → slice_get xs i ≡ Some x → drop i xs ≡ x ∷ drop (i + 1) xs
drop_at xs i x is = drop_more xs i x (slice_get_within xs i x is) ∙ ap (λ y. y ∷ drop (i + 1) xs) (get_or_from_slice_get xs i x x is)

pub position-from_front : (test : ℕ → Bool) (xs : List ℕ) → position_from test 0 xs ≡ position test xs
position-from_front test xs = sym (position_from-zero test xs)

pub position-next : (test : ℕ → Bool) (xs : List ℕ) (i x : ℕ) → slice_get xs i ≡ Some x → test x ≡ false → position_from test i (drop i xs) ≡ position test xs
    → position_from test (i + 1) (drop (i + 1) xs) ≡ position test xs
position-next test xs i x is fails before =
    sym (ap (position_from test i) (drop_at xs i x is) ∙ ap (λ b. cond b (Some i) (position_from test (i + 1) (drop (i + 1) xs))) fails) ∙ before

pub position-passes : (test : ℕ → Bool) (xs : List ℕ) (i x : ℕ) → slice_get xs i ≡ Some x → test x ≡ true → position_from test i (drop i xs) ≡ position test xs
    → Some i ≡ position test xs
position-passes test xs i x is passes before =
    sym (ap (position_from test i) (drop_at xs i x is) ∙ ap (λ b. cond b (Some i) (position_from test (i + 1) (drop (i + 1) xs))) passes) ∙ before
