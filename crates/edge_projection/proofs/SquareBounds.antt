-- How large a square distance can be.
use Rattle.std.proofs.Common.{◌≡◌, ℕ, ◌*◌, ◌^◌, ◌≤◌, inl, inr, ℤ, pos, ◌-ℤ◌, ◌*ℤ◌, unsigned_abs, List, length, get_or, arith, rules}
use Rattle.std.specs.List.{range_with_len}
use Rattle.std.proofs.lemmas.Bool.{cases_lt}
use Rattle.std.proofs.lemmas.Int.{ints, unsigned_abs-mul}
use Rattle.std.proofs.lemmas.List.{get_or_past}
use Rattle.std.proofs.lemmas.List.FromFn.{length-range_with_len}
use Rattle.std.proofs.lemmas.List.Sums.{sum_by-le}
use Rattle.std.proofs.lemmas.Nat.{mul-le}
use Rattle.fixed_num.specs.Numbers.{IsCoordinate}
use Rattle.fixed_num.specs.Norm.{square}
use Rattle.mesh_data.specs.Points.{IsPoint}
use Rattle.edge_projection.specs.Offsets.{offset, coordinate, square_off}

pub scaled-le : (m : ℕ) (x y : ℤ) → m ≤ 10 ^ 6 → IsCoordinate x → IsCoordinate y → unsigned_abs (pos m *ℤ (x -ℤ y)) ≤ 2 * 10 ^ 18
scaled-le m x y weight first last =
    let way : unsigned_abs (x -ℤ y) ≤ 2 * 10 ^ 12 = omega (arith, ints) in
    omega (arith, unsigned_abs-mul (pos m) (x -ℤ y), mul-le m (unsigned_abs (x -ℤ y)) (10 ^ 6) (2 * 10 ^ 12) weight way)

apart-le : (x y : ℤ) (n : ℕ) → unsigned_abs x ≤ n → unsigned_abs y ≤ n → unsigned_abs (x -ℤ y) ≤ 2 * n
apart-le x y n first last = omega (arith, ints)

pub offset-le : (m : ℕ) (p a b : ℤ) → m ≤ 10 ^ 6 → IsCoordinate p → IsCoordinate a → IsCoordinate b → unsigned_abs (offset m p a b) ≤ 4 * 10 ^ 18
offset-le m p a b weight point start end =
    apart-le (pos (10 ^ 6) *ℤ (p -ℤ a)) (pos m *ℤ (b -ℤ a)) (2 * 10 ^ 18) (scaled-le (10 ^ 6) p a (omega arith) point start) (scaled-le m b a weight end start)

pub square-le : (x : ℤ) → unsigned_abs x ≤ 4 * 10 ^ 18 → square x ≤ 16 * 10 ^ 36
square-le x small =
    let is : square x ≡ unsigned_abs x * unsigned_abs x = square_is (unsigned_abs x) in
    omega (arith, is, mul-le (unsigned_abs x) (unsigned_abs x) (4 * 10 ^ 18) (4 * 10 ^ 18) small small)
  where
    square_is : (n : ℕ) → n ^ 2 ≡ n * n
    square_is n = search rules

-- a coordinate past the last is zero
coordinate-le : (dimensions i : ℕ) (point : List ℤ) → IsPoint dimensions point → IsCoordinate (coordinate point i)
coordinate-le dimensions i point is =
    elim (cases_lt i (length point)) [
      | inl inside ↦ is.in_range i (pos 0) inside
      | inr past ↦ rw (get_or_past point i (pos 0) past) (omega arith)
    ]

pub square_off-le : (dimensions m : ℕ) (p a b : List ℤ) → dimensions ≤ 3 → m ≤ 10 ^ 6 → IsPoint dimensions p → IsPoint dimensions a → IsPoint dimensions b
    → square_off m p a b ≤ 48 * 10 ^ 36
unfolding square_off
square_off-le dimensions m p a b few weight point start end =
    let count = length-range_with_len 0 (length p) in
    let all = sum_by-le (λ i. square (offset m (coordinate p i) (coordinate a i) (coordinate b i))) (16 * 10 ^ 36) (range_with_len 0 (length p))
    (λ k d inside. square-le (offset m (coordinate p (get_or (range_with_len 0 (length p)) k d)) (coordinate a (get_or (range_with_len 0 (length p)) k d)) (coordinate b (get_or (range_with_len 0 (length p)) k d)))
    (offset-le m (coordinate p (get_or (range_with_len 0 (length p)) k d)) (coordinate a (get_or (range_with_len 0 (length p)) k d)) (coordinate b (get_or (range_with_len 0 (length p)) k d)) weight
    (coordinate-le dimensions (get_or (range_with_len 0 (length p)) k d) p point)
    (coordinate-le dimensions (get_or (range_with_len 0 (length p)) k d) a start)
    (coordinate-le dimensions (get_or (range_with_len 0 (length p)) k d) b end))) in
    let rows = mul-le (length (range_with_len 0 (length p))) (16 * 10 ^ 36) 3 (16 * 10 ^ 36) (omega (arith, count, point.one_for_each, few)) (omega arith) in
    omega (arith, all, rows)
