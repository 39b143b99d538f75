-- A loop over a list: what holds of all that is left holds of all.
use Rattle.std.proofs.Common.{◌≡◌, ℕ, ◌+◌, ◌<◌, Bool, true, false, ◌&&◌, List, ◌∷◌, drop, length, get_or, ap, sym, ◌∙◌}
use Rattle.std.specs.List.{list_all}
use Rattle.std.proofs.lemmas.List.{drop_more}

pub here : {X : Type 0} (xs : List X) (i : ℕ) (x : X) → i < length xs → x ≡ get_or xs i x → drop i xs ≡ x ∷ drop (i + 1) xs
here xs i x within is = drop_more xs i x within ∙ ap (λ y. y ∷ drop (i + 1) xs) (sym is)

pub list_all-next : {X : Type 0} (test : X → Bool) (xs : List X) (i : ℕ) (x : X) → i < length xs → x ≡ get_or xs i x → test x ≡ true → list_all test (drop i xs) ≡ list_all test xs
    → list_all test (drop (i + 1) xs) ≡ list_all test xs
list_all-next test xs i x within is passes before =
    sym (ap (list_all test) (here xs i x within is) ∙ ap (λ b. b && list_all test (drop (i + 1) xs)) passes) ∙ before

pub list_all-fails : {X : Type 0} (test : X → Bool) (xs : List X) (i : ℕ) (x : X) → i < length xs → x ≡ get_or xs i x → test x ≡ false → list_all test (drop i xs) ≡ list_all test xs
    → false ≡ list_all test xs
list_all-fails test xs i x within is fails before =
    sym (ap (list_all test) (here xs i x within is) ∙ ap (λ b. b && list_all test (drop (i + 1) xs)) fails) ∙ before
