-- Pairs of the items of a list, the first of which stands before the second; the item at a place.
use Rattle.std.proofs.Common.{◌≡◌, ℕ, zero, suc, ◌+◌, ◌<◌, Bool, true, false, cond, List, [], ◌∷◌, ◌++◌, length, get_or, take, drop, All, Contains, refl, ap, sym, subst, ◌∙◌, arith}
use Rattle.std.specs.Prelude.{AllPairs, filter}
use Rattle.std.proofs.lemmas.List.{take-append-drop, drop_more, get_or-take, length-take}
use Rattle.std.proofs.lemmas.List.Elements.{All-filter, filter_passes}
use Rattle.config_laws.specs.Placed.{EachAfter}

-- what holds of each after those before it holds of each pair
pub pairs_after : {X : Type 0} (R : X → X → Type 0) (xs : List X) → EachAfter (λ before x. All (λ y. R y x) before) xs → AllPairs R xs
pairs_after {X} R xs each i j d less within =
    let split : xs ≡ take j xs ++ get_or xs j d ∷ drop (j + 1) xs = sym (take-append-drop j xs) ∙ ap (λ (ys : List X). take j xs ++ ys) (drop_more xs j d within) in
    let short : i < length (take j xs) = omega (arith, less, within, length-take j xs) in
    subst (λ (y : X). R y (get_or xs j d)) (get_or-take j xs i d less) (each (take j xs) (get_or xs j d) (drop (j + 1) xs) split i d short)

pairs_cons : {X : Type 0} (R : X → X → Type 0) (x : X) (xs : List X) → All (R x) xs → AllPairs R xs → AllPairs R (x ∷ xs)
pairs_cons R x xs head tail zero zero d less within = absurd (omega (arith, less))
pairs_cons R x xs head tail zero (suc j) d less within = head j d (omega (arith, within))
pairs_cons R x xs head tail (suc i) zero d less within = absurd (omega (arith, less))
pairs_cons R x xs head tail (suc i) (suc j) d less within = tail i j d (omega (arith, less)) (omega (arith, within))

pairs_head : {X : Type 0} (R : X → X → Type 0) (x : X) (xs : List X) → AllPairs R (x ∷ xs) → All (R x) xs
pairs_head R x xs all k d within = all 0 (suc k) d (omega arith) (omega (arith, within))

pairs_tail : {X : Type 0} (R : X → X → Type 0) (x : X) (xs : List X) → AllPairs R (x ∷ xs) → AllPairs R xs
pairs_tail R x xs all i j d less within = all (suc i) (suc j) d (omega (arith, less)) (omega (arith, within))

kept_pairs : {X : Type 0} (p : X → Bool) (S : X → X → Type 0) (x : X) (xs : List X) (b : Bool) → p x ≡ b → All (λ y. p x ≡ true → p y ≡ true → S x y) xs → AllPairs S (filter p xs)
    → AllPairs S (cond b (x ∷ filter p xs) (filter p xs))
kept_pairs {X} p S x xs true is head tail =
    let both : All (λ y. p x ≡ true → p y ≡ true → S x y) (filter p xs) = All-filter p (λ (y : X). p x ≡ true → p y ≡ true → S x y) xs head in
    pairs_cons S x (filter p xs) (λ k d within. both k d within is (filter_passes p xs k d within)) tail
kept_pairs p S x xs false is head tail = tail

-- what holds of each pair of those that pass holds of each pair that is kept
pub pairs_kept : {X : Type 0} (p : X → Bool) (S : X → X → Type 0) (xs : List X) → AllPairs (λ y x. p y ≡ true → p x ≡ true → S y x) xs → AllPairs S (filter p xs)
pairs_kept p S [] all = λ i j d less within. absurd (omega (arith, within))
pairs_kept {X} p S (x ∷ xs) all =
    let R : X → X → Type 0 = λ y z. p y ≡ true → p z ≡ true → S y z in
    kept_pairs p S x xs (p x) refl (pairs_head R x xs all) (pairs_kept p S xs (pairs_tail R x xs all))

-- the item at a place within the list
pub item_at : {X : Type 0} (xs : List X) (k : ℕ) → k < length xs → (x : X) × ((d : X) → get_or xs k d ≡ x)
item_at [] k within = absurd (omega (arith, within))
item_at (x ∷ xs) zero within = (x, λ d. refl)
item_at (x ∷ xs) (suc k) within = item_at xs k (omega (arith, within))

-- a list of lists has no more members past its end
pub place_within : (groups : List (List ℕ)) (g part : ℕ) → Contains (get_or groups g []) part → g < length groups
place_within [] g part inside = absurd (omega (arith, inside.1))
place_within (group ∷ groups) zero part inside = omega arith
place_within (group ∷ groups) (suc g) part inside = let rest = place_within groups g part inside in omega (arith, rest)
