-- One exchange more of those that a participant receives.
use Rattle.std.proofs.Common.{◌≡◌, ℕ, zero, suc, ◌+◌, Bool, true, false, cond, List, [], ◌∷◌, ◌++◌, map, filter, refl, ap, ◌∙◌, arith, append-nil}
use Rattle.std.specs.List.{range_with_len, zip}
use Rattle.std.proofs.lemmas.List.{map-append}
use Rattle.std.proofs.lemmas.List.Elements.{filter-append}

range_more : (a n : ℕ) → range_with_len a (suc n) ≡ range_with_len a n ++ (a + n) ∷ []
range_more a zero = ap (λ (m : ℕ). m ∷ []) (omega arith)
range_more a (suc n) =
    ap (λ (xs : List ℕ). a ∷ xs) (range_more (a + 1) n ∙ ap (λ (m : ℕ). range_with_len (a + 1) n ++ m ∷ []) (omega arith))

-- the items of those that pass, up to a number
abbrev pub row : {X : Type 0} → (ℕ → X) → (ℕ → Bool) → (n : ℕ) → List X
row item test n = map item (filter test (range_with_len 0 n))

row_joined : {X : Type 0} (item : ℕ → X) (test : ℕ → Bool) (n : ℕ) → row item test (n + 1) ≡ row item test n ++ map item (cond (test n) (n ∷ []) [])
row_joined item test n =
    let next : n + 1 ≡ suc n = omega arith in
    let last : 0 + n ≡ n = omega arith in
    ap (λ (m : ℕ). row item test m) next
    ∙ ap (λ (xs : List ℕ). map item (filter test xs)) (range_more 0 n ∙ ap (λ (m : ℕ). range_with_len 0 n ++ m ∷ []) last)
    ∙ ap (λ (xs : List ℕ). map item xs) (filter-append test (range_with_len 0 n) (n ∷ []))
    ∙ map-append item (filter test (range_with_len 0 n)) (cond (test n) (n ∷ []) [])

pub row_more : {X : Type 0} (item : ℕ → X) (test : ℕ → Bool) (n : ℕ) → test n ≡ true → row item test (n + 1) ≡ row item test n ++ item n ∷ []
row_more item test n is = row_joined item test n ∙ ap (λ (b : Bool). row item test n ++ map item (cond b (n ∷ []) [])) is

pub row_same : {X : Type 0} (item : ℕ → X) (test : ℕ → Bool) (n : ℕ) → test n ≡ false → row item test (n + 1) ≡ row item test n
row_same item test n is =
    row_joined item test n ∙ ap (λ (b : Bool). row item test n ++ map item (cond b (n ∷ []) [])) is ∙ append-nil (row item test n)

-- each number beside what is made of it
pub map-zip_map : {A B C : Type 0} (f : A → B → C) (g : A → B) (xs : List A) → map (λ (at : A × B). f at.0 at.1) (zip xs (map g xs)) ≡ map (λ x. f x (g x)) xs
map-zip_map f g [] = refl
map-zip_map f g (x ∷ xs) = ap (λ rest. f x (g x) ∷ rest) (map-zip_map f g xs)
