-- Lists made entry by entry of two lists: differences and relaxed values.
use Rattle.std.proofs.Common.{◌≡◌, ℕ, zero, suc, ◌+◌, ◌<◌, List, [], ◌∷◌, ◌++◌, length, get_or, take, map, ◌*◌, ◌^◌, ◌≤◌, ℤ, ◌-ℤ◌, pos, unsigned_abs, arith, refl, sym, ap, ◌∙◌}
use mir.Syntax.{w64}
use mir.Val.{to_z, of_z}
use Rattle.std.specs.List.{zip}
use Rattle.std.proofs.lemmas.Int.{to_z-of_z, fits_signed_from_abs}
use Rattle.std.proofs.lemmas.List.{length-map, take_more}
use Rattle.std.proofs.lemmas.Slice.Zip.{length-zip}
use Rattle.fixed_num.specs.Relaxation.{relaxed}
use Rattle.acceleration.specs.Residual.{less}
use Rattle.acceleration.specs.RelaxedWaves.{relaxed_values}

get_or-map-zip : (f : ℤ × ℤ → ℤ) (xs ys : List ℤ) (i : ℕ) (d e : ℤ) → i < length xs → i < length ys
    → get_or (map f (zip xs ys)) i d ≡ f (get_or xs i e, get_or ys i e)
get_or-map-zip f [] ys i d e h g = absurd (omega arith)
get_or-map-zip f (x ∷ xs) [] i d e h g = absurd (omega arith)
get_or-map-zip f (x ∷ xs) (y ∷ ys) zero d e h g = refl
get_or-map-zip f (x ∷ xs) (y ∷ ys) (suc i) d e h g = get_or-map-zip f xs ys i d e (omega arith) (omega arith)

pub length-less : (a b : List ℤ) → length b ≡ length a → length (less a b) ≡ length a
unfolding less
length-less a b same = simp (length-map, length-zip) (omega (arith, same))

pub less-get_or : (a b : List ℤ) (i : ℕ) (d e : ℤ) → i < length a → i < length b → get_or (less a b) i d ≡ get_or a i e -ℤ get_or b i e
unfolding less
less-get_or a b i d e h g = get_or-map-zip (λ (v : ℤ × ℤ). v.0 -ℤ v.1) a b i d e h g

pub length-relaxed_values : (factor : ℤ) (xs ys : List ℤ) → length xs ≡ length ys → length (relaxed_values factor xs ys) ≡ length ys
unfolding relaxed_values
length-relaxed_values factor xs ys same = simp (length-map, length-zip) (omega (arith, same))

pub relaxed_values-get_or : (factor : ℤ) (xs ys : List ℤ) (i : ℕ) (d e : ℤ) → i < length xs → i < length ys
    → get_or (relaxed_values factor xs ys) i d ≡ relaxed (get_or xs i e) (get_or ys i e) factor
unfolding relaxed_values
relaxed_values-get_or factor xs ys i d e h g = get_or-map-zip (λ (v : ℤ × ℤ). relaxed v.0 v.1 factor) xs ys i d e h g

-- one entry further
pub less_more : (a b : List ℤ) (i : ℕ) (x : ℤ) → i < length a → length b ≡ length a → x ≡ get_or a i (pos 0) -ℤ get_or b i (pos 0)
    → take (i + 1) (less a b) ≡ take i (less a b) ++ x ∷ []
less_more a b i x inside same is =
    take_more (less a b) i (pos 0) (omega (arith, length-less a b same, inside))
    ∙ ap (λ (v : ℤ). take i (less a b) ++ v ∷ []) (less-get_or a b i (pos 0) (pos 0) inside (omega (arith, same)) ∙ sym is)

pub relaxed_values_more : (factor : ℤ) (xs ys : List ℤ) (i : ℕ) (v : ℤ) → i < length ys → length xs ≡ length ys → v ≡ relaxed (get_or xs i (pos 0)) (get_or ys i (pos 0)) factor
    → take (i + 1) (relaxed_values factor xs ys) ≡ take i (relaxed_values factor xs ys) ++ v ∷ []
relaxed_values_more factor xs ys i v inside same is =
    take_more (relaxed_values factor xs ys) i (pos 0) (omega (arith, length-relaxed_values factor xs ys same, inside))
    ∙ ap (λ (x : ℤ). take i (relaxed_values factor xs ys) ++ x ∷ []) (relaxed_values-get_or factor xs ys i (pos 0) (pos 0) (omega (arith, same)) inside ∙ sym is)

-- a small number keeps its value in 64 bits
pub kept64 : (x : ℤ) → unsigned_abs x ≤ 4 * 10 ^ 13 → to_z w64 (of_z w64 x) ≡ x
kept64 x small = to_z-of_z w64 x (fits_signed_from_abs w64 x (omega (arith, small)))
