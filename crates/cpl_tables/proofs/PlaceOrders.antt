-- The order of places, and lists whose places rise.
use Rattle.std.proofs.Common.{◌≡◌, ℕ, List, [], ◌∷◌, ◌++◌, map, inl, inr, refl, ◌∙◌, arith}
use Rattle.std.specs.List.{AllByRecursion}
use Rattle.cpl_tables.specs.declared.places.Place.{Place}
use Rattle.cpl_tables.specs.PlaceOrder.{way_to, IsEarlier, IsBefore, AreRising}

pub earlier-self : (way : List ℕ) → IsEarlier way way → ⊥
earlier-self [] h = h
earlier-self (n ∷ ns) (inl less) = absurd (omega arith)
earlier-self (n ∷ ns) (inr rest) = earlier-self ns rest.1

pub earlier-onward : (a b c : List ℕ) → IsEarlier a b → IsEarlier b c → IsEarlier a c
earlier-onward a [] c h k = absurd h
earlier-onward a (y ∷ ys) [] h k = absurd k
earlier-onward [] (y ∷ ys) (z ∷ zs) h k = tt
earlier-onward (x ∷ xs) (y ∷ ys) (z ∷ zs) (inl less) (inl more) = inl (omega arith)
earlier-onward (x ∷ xs) (y ∷ ys) (z ∷ zs) (inl less) (inr rest) = let same : y ≡ z = rest.0 in inl (omega arith)
earlier-onward (x ∷ xs) (y ∷ ys) (z ∷ zs) (inr rest) (inl more) = let same : x ≡ y = rest.0 in inl (omega arith)
earlier-onward (x ∷ xs) (y ∷ ys) (z ∷ zs) (inr rest) (inr further) = inr (rest.0 ∙ further.0, earlier-onward xs ys zs rest.1 further.1)

-- ways that begin alike part where the rest of them does
pub earlier-after : (base a b : List ℕ) → IsEarlier a b → IsEarlier (base ++ a) (base ++ b)
earlier-after [] a b h = h
earlier-after (n ∷ base) a b h = inr (refl, earlier-after base a b h)

-- a way comes before those on it
pub earlier-further : (base : List ℕ) (n : ℕ) (ns : List ℕ) → IsEarlier base (base ++ n ∷ ns)
earlier-further [] n ns = tt
earlier-further (m ∷ base) n ns = inr (refl, earlier-further base n ns)

module _ {X : Type 0} (way : X → List ℕ) where
  -- one after the other, all after the first way and before the last
  abbrev pub IsBetween : List ℕ → List ℕ → List X → Type 0
  IsBetween low high [] = IsEarlier low high
  IsBetween low high (x ∷ xs) = IsEarlier low (way x) × IsBetween (way x) high xs

  pub between-lower : (lower low high : List ℕ) (xs : List X) → IsEarlier lower low → IsBetween low high xs → IsBetween lower high xs
  between-lower lower low high [] h k = earlier-onward lower low high h k
  between-lower lower low high (x ∷ xs) h k = (earlier-onward lower low (way x) h k.0, k.1)

  pub between-both : (low middle high : List ℕ) (xs ys : List X) → IsBetween low middle xs → IsBetween middle high ys → IsBetween low high (xs ++ ys)
  between-both low middle high [] ys h k = between-lower low middle high ys h k
  between-both low middle high (x ∷ xs) ys h k = (h.0, between-both (way x) middle high xs ys h.1 k)

  pub between-after : (low high : List ℕ) (xs : List X) → IsBetween low high xs → AllByRecursion (λ x. IsEarlier low (way x)) xs
  between-after low high [] h = tt
  between-after low high (x ∷ xs) h = (h.0, between-after low high xs (between-lower low (way x) high xs h.0 h.1))

each_place : {X : Type 0} (place_of : X → Place) (P : Place → Type 0) (xs : List X) → AllByRecursion (λ x. P (place_of x)) xs → AllByRecursion P (map place_of xs)
each_place place_of P [] all = tt
each_place place_of P (x ∷ xs) all = (all.0, each_place place_of P xs all.1)

-- what lies so has rising places
pub between-rising : {X : Type 0} (place_of : X → Place) (low high : List ℕ) (xs : List X) → IsBetween (λ x. way_to (place_of x)) low high xs → AreRising (map place_of xs)
between-rising place_of low high [] h = tt
between-rising place_of low high (x ∷ xs) h = (
  each_place place_of (IsBefore (place_of x)) xs (between-after (λ y. way_to (place_of y)) (way_to (place_of x)) high xs h.1),
  between-rising place_of (way_to (place_of x)) high xs h.1,
)

-- so has what lies so behind a first place, and this one
pub rising-first : {X : Type 0} (place_of : X → Place) (first : X) (high : List ℕ) (xs : List X) → IsBetween (λ x. way_to (place_of x)) (way_to (place_of first)) high xs
    → AreRising (map place_of (first ∷ xs))
rising-first place_of first high xs h = (
  each_place place_of (IsBefore (place_of first)) xs (between-after (λ x. way_to (place_of x)) (way_to (place_of first)) high xs h),
  between-rising place_of (way_to (place_of first)) high xs h,
)
