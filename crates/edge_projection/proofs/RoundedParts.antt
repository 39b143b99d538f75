-- A rounded part of a value, and a value between two: how large they are.
use Rattle.std.proofs.Common.{◌≡◌, ℕ, ◌^◌, ◌≤◌, Bool, true, false, ℤ, pos, ◌-ℤ◌, ◌*ℤ◌, unsigned_abs, inl, inr, arith, ap}
use Rattle.std.proofs.lemmas.Int.{ints}
use Rattle.fixed_num.specs.Numbers.{IsValue, quotient}
use Rattle.waveform.specs.Between.{IsBetween}
use Rattle.waveform.proofs.Lines.{quotient-part, IsValue-between}
use Rattle.edge_projection.specs.MappedField.{between, share_of, part_of}

pub between-IsBetween : (m : ℕ) (x y : ℤ) → m ≤ 10 ^ 6 → IsBetween x y (between m x y)
unfolding between
between-IsBetween m x y weight =
    elim (quotient-part (y -ℤ x) m (10 ^ 6) (omega arith) weight) [
      | inl w ↦ inl (omega (arith, ints, w.0), omega (arith, ints, w.1))
      | inr w ↦ inr (omega (arith, ints, w.0), omega (arith, ints, w.1))
    ]

pub between-IsValue : (m : ℕ) (x y : ℤ) → m ≤ 10 ^ 6 → IsValue x → IsValue y → IsValue (between m x y)
between-IsValue m x y weight first last = IsValue-between x y (between m x y) (between-IsBetween m x y weight) first last

-- from nothing on, it is the share
pub part-share : (m : ℕ) (x : ℤ) → quotient ((x -ℤ pos 0) *ℤ pos m) (10 ^ 6) ≡ share_of m x
unfolding share_of
part-share m x =
    let way : x -ℤ pos 0 ≡ x = omega (arith, ints) in
    ap (λ (z : ℤ). quotient (z *ℤ pos m) (10 ^ 6)) way

share-IsBetween : (m : ℕ) (x : ℤ) → m ≤ 10 ^ 6 → IsBetween (pos 0) x (share_of m x)
unfolding share_of
share-IsBetween m x weight = quotient-part x m (10 ^ 6) (omega arith) weight

-- neither part is larger than a value can be
pub part_of-le : (rest : Bool) (m : ℕ) (x : ℤ) → m ≤ 10 ^ 6 → IsValue x → unsigned_abs (part_of rest m x) ≤ 10 ^ 13
part_of-le true m x weight value =
    elim (share-IsBetween m x weight) [
      | inl w ↦ omega (arith, ints, w.0, w.1)
      | inr w ↦ omega (arith, ints, w.0, w.1)
    ]
part_of-le false m x weight value =
    elim (share-IsBetween m x weight) [
      | inl w ↦ omega (arith, ints, w.0, w.1)
      | inr w ↦ omega (arith, ints, w.0, w.1)
    ]
