-- A loop over a list: what is found in what is left is found in the whole.
use Rattle.std.proofs.Common.{◌≡◌, ℕ, ◌+◌, ◌<◌, Bool, true, false, ◌||◌, List, ◌∷◌, drop, length, get_or, ap, sym, ◌∙◌}
use Rattle.std.specs.List.{list_any}
use Rattle.std.proofs.lemmas.List.{drop_more}

here : {X : Type 0} (xs : List X) (i : ℕ) (x : X) → i < length xs → x ≡ get_or xs i x → drop i xs ≡ x ∷ drop (i + 1) xs
here xs i x within is = drop_more xs i x within ∙ ap (λ y. y ∷ drop (i + 1) xs) (sym is)

pub list_any-next : {X : Type 0} (test : X → Bool) (xs : List X) (i : ℕ) (x : X) → i < length xs → x ≡ get_or xs i x → test x ≡ false → list_any test (drop i xs) ≡ list_any test xs
    → list_any test (drop (i + 1) xs) ≡ list_any test xs
list_any-next test xs i x within is fails before =
    sym (ap (list_any test) (here xs i x within is) ∙ ap (λ b. b || list_any test (drop (i + 1) xs)) fails) ∙ before

pub list_any-passes : {X : Type 0} (test : X → Bool) (xs : List X) (i : ℕ) (x : X) → i < length xs → x ≡ get_or xs i x → test x ≡ true → list_any test (drop i xs) ≡ list_any test xs
    → true ≡ list_any test xs
list_any-passes test xs i x within is passes before =
    sym (ap (list_any test) (here xs i x within is) ∙ ap (λ b. b || list_any test (drop (i + 1) xs)) passes) ∙ before
