-- A rounded component on the line between two others lies between them.
use Rattle.std.proofs.Common.{◌≡◌, ℕ, zero, suc, ◌-◌, ◌*◌, ◌^◌, ◌<◌, ◌≤◌, inl, inr, ℤ, pos, negsuc, neg_ℤ, ◌-ℤ◌, ◌*ℤ◌, unsigned_abs, arith, refl, ◌∙◌, List, [], ◌∷◌, length, get_or, map, min}
use Rattle.std.proofs.Math.Nat.{mul-le-mul_left}
use mir.Syntax.{w64}
use mir.Val.{to_z, of_z, SFits}
use Rattle.std.proofs.lemmas.Int.{ints, to_z-of_z}
use Rattle.std.proofs.lemmas.List.{length-map, get_or_read}
use Rattle.std.proofs.lemmas.Slice.Zip.{length-zip}
use Rattle.std.specs.List.{zip}
use Rattle.fixed_num.specs.Numbers.{IsValue, nearest_of, quotient}
use Rattle.fixed_num.proofs.Quotients.{quotient-le}
use Rattle.waveform.specs.declared.sample.Sample.{Sample}
use Rattle.waveform.specs.Between.{IsBetween}
use Rattle.waveform.specs.WaveValue.{component_between, values_between}

-- m parts of b of a number are no more than it
nearest_of-part : (p m b : ℕ) → 0 < b → m ≤ b → nearest_of (p * m) b ≤ p
unfolding quotient
nearest_of-part p m b h part = quotient-le (pos (p * m)) b p h (mul-le-mul_left p part)

quotient-neg : (x b : ℕ) → 0 < b → quotient (neg_ℤ (pos x)) b ≡ neg_ℤ (pos (nearest_of x b))
unfolding quotient
quotient-neg zero b h =
    let none : nearest_of 0 b ≡ 0 = omega (arith, quotient-le (pos 0) b 0 h (omega arith)) in
    rw none refl
quotient-neg (suc x) b h = refl

-- m parts of b of a change lie between no change and all of it
pub quotient-part : (change : ℤ) (m b : ℕ) → 0 < b → m ≤ b → IsBetween (pos 0) change (quotient (change *ℤ pos m) b)
unfolding quotient
quotient-part (pos p) m b h part = inl (omega (arith, ints), omega (arith, ints, nearest_of-part p m b h part))
quotient-part (negsuc p) m b h part =
    rw (quotient-neg (suc p * m) b h)
    (inr (omega (arith, ints, nearest_of-part (suc p) m b h part), omega (arith, ints)))

pub component_between-IsBetween : (s0 s1 t : ℕ) (v0 v1 : ℤ) → s0 ≤ t → t ≤ s1 → s0 < s1 → IsBetween v0 v1 (component_between s0 s1 t v0 v1)
unfolding component_between
component_between-IsBetween s0 s1 t v0 v1 after before apart =
    elim (quotient-part (v1 -ℤ v0) (t - s0) (s1 - s0) (omega arith) (omega arith)) [
      | inl w ↦ inl (omega (arith, ints, w.0), omega (arith, ints, w.1))
      | inr w ↦ inr (omega (arith, ints, w.0), omega (arith, ints, w.1))
    ]

-- what lies between two Values is one
pub IsValue-between : (a b x : ℤ) → IsBetween a b x → IsValue a → IsValue b → IsValue x
IsValue-between a b x (inl w) first last = omega (arith, ints, w.0, w.1)
IsValue-between a b x (inr w) first last = omega (arith, ints, w.0, w.1)

-- the rounded part of the change between two Values is small
pub part-le : (v0 v1 : ℤ) (m b : ℕ) → 0 < b → m ≤ b → IsValue v0 → IsValue v1 → unsigned_abs (quotient ((v1 -ℤ v0) *ℤ pos m) b) ≤ 2 * 10 ^ 13
part-le v0 v1 m b h part first last =
    elim (quotient-part (v1 -ℤ v0) m b h part) [
      | inl w ↦ omega (arith, ints, w.0, w.1)
      | inr w ↦ omega (arith, ints, w.0, w.1)
    ]

get_or-map-zip : (f : ℤ × ℤ → ℤ) (xs ys : List ℤ) (i : ℕ) (d : ℤ) → i < length xs → i < length ys
    → get_or (map f (zip xs ys)) i d ≡ f (get_or xs i d, get_or ys i d)
get_or-map-zip f [] ys i d h g = absurd (omega arith)
get_or-map-zip f (x ∷ xs) [] i d h g = absurd (omega arith)
get_or-map-zip f (x ∷ xs) (y ∷ ys) zero d h g = refl
get_or-map-zip f (x ∷ xs) (y ∷ ys) (suc i) d h g = get_or-map-zip f xs ys i d (omega arith) (omega arith)

-- the component at i between two samples
pub values_between-get_or : (s0 s1 : Sample) (t i : ℕ) (d : ℤ) → i < length s0.field.values → i < length s1.field.values
    → get_or (values_between s0 s1 t) i d ≡ component_between s0.time s1.time t (get_or s0.field.values i d) (get_or s1.field.values i d)
unfolding values_between
values_between-get_or s0 s1 t i d h g =
    get_or-map-zip (λ (v : ℤ × ℤ). component_between s0.time s1.time t v.0 v.1) s0.field.values s1.field.values i d h g

pub length-values_between : (s0 s1 : Sample) (t : ℕ) → length (values_between s0 s1 t) ≡ min (length s0.field.values) (length s1.field.values)
unfolding values_between
length-values_between s0 s1 t = simp (length-map, length-zip)

-- the units of the value at i, as they come from a slice
pub units_at : (values : List ℤ) (i : ℕ) (units value : ℤ) → SFits w64 units → units ≡ value → value ≡ get_or values i value → i < length values
    → to_z w64 (of_z w64 units) ≡ get_or values i (pos 0)
units_at values i units value fits is at inside = to_z-of_z w64 units fits ∙ is ∙ get_or_read values i value inside at (pos 0)
