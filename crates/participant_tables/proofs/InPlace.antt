-- A list whose items are changed in place, one after another.
use Rattle.std.proofs.Common.{◌≡◌, ℕ, zero, suc, ◌+◌, List, [], ◌∷◌, ◌++◌, map, take, drop, set, get_or, refl, ap, sym, ◌∙◌, arith}
use Rattle.std.proofs.lemmas.List.{set-get_or}
use Rattle.participant_tables.specs.AtPlace.{at_place}

-- so many items of a list are changed, and the rest is as before
abbrev pub changed : {X : Type 0} → (X → X) → (count : ℕ) → List X → List X
changed f count xs = map f (take count xs) ++ drop count xs

-- one more is changed
step : {X : Type 0} (f : X → X) (old : List X) (i : ℕ) (d new : X) → new ≡ f (get_or (changed f i old) i d) → set (changed f i old) i new ≡ changed f (i + 1) old
step f [] zero d new is = refl
step f [] (suc i) d new is = let next : suc i + 1 ≡ suc (i + 1) = omega (arith) in ap (λ n. changed f n []) (sym next)
step f (x ∷ old) zero d new is = ap (λ y. y ∷ old) is
step f (x ∷ old) (suc i) d new is =
    let next : suc i + 1 ≡ suc (i + 1) = omega (arith) in
    ap (λ ys. f x ∷ ys) (step f old i d new is) ∙ ap (λ n. changed f n (x ∷ old)) (sym next)

pub changed-more : {X : Type 0} (f : X → X) (old items : List X) (i : ℕ) (d new : X) → items ≡ changed f i old → new ≡ f (get_or items i d) → set items i new ≡ changed f (i + 1) old
changed-more f old items i d new so_far is = ap (λ xs. set xs i new) so_far ∙ step f old i d new (is ∙ ap (λ xs. f (get_or xs i d)) so_far)

-- one is changed at its place
pub changed-one : {X : Type 0} (f : X → X) (xs : List X) (place : ℕ) (d new : X) → new ≡ f (get_or xs place d) → set xs place new ≡ at_place f place xs
unfolding at_place
changed-one f [] zero d new is = refl
changed-one f [] (suc place) d new is = refl
changed-one f (x ∷ xs) zero d new is = ap (λ y. y ∷ xs) is
changed-one f (x ∷ xs) (suc place) d new is = ap (λ ys. x ∷ ys) (changed-one f xs place d new is)

-- what is changed, and what is not yet
pub changed-front : {X : Type 0} (f : X → X) (n : ℕ) (xs : List X) → take n (changed f n xs) ≡ map f (take n xs)
changed-front f zero [] = refl
changed-front f (suc n) [] = refl
changed-front f zero (x ∷ xs) = refl
changed-front f (suc n) (x ∷ xs) = ap (λ ys. f x ∷ ys) (changed-front f n xs)

pub changed-rest : {X : Type 0} (f : X → X) (n : ℕ) (xs : List X) → drop n (changed f n xs) ≡ drop n xs
changed-rest f zero [] = refl
changed-rest f (suc n) [] = refl
changed-rest f zero (x ∷ xs) = refl
changed-rest f (suc n) (x ∷ xs) = changed-rest f n xs

-- what is written back as it was changes nothing
pub written-back : {X : Type 0} (items so_far : List X) (i : ℕ) (d new : X) → items ≡ so_far → new ≡ get_or items i d → set items i new ≡ so_far
written-back items so_far i d new is same = ap (λ y. set items i y) same ∙ (set-get_or items i d ∙ is)
