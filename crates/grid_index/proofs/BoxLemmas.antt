-- Boxes of cells, axis by axis.
use Rattle.std.proofs.Common.{◌≡◌, ℕ, zero, suc, ◌+◌, ◌-◌, ◌*◌, ◌^◌, ◌<◌, ◌≤◌, List, [], ◌∷◌, ℤ, length, get_or, drop, refl, inl, inr, arith, mul-le-mul_right, mul-le-mul_left}
use Rattle.grid_index.specs.Boxes.{IsInBox, IsSpan, AreNested, box_sum, branch_sum, total, box_within}
use Rattle.grid_index.specs.declared.spans.Span.{Span}
use Rattle.grid_index.proofs.Quotients.{row_power, power_some}

-- the first axis of a box and the others
pub box_sum-split : (w : ℕ → ℕ) (c : ℕ) (box : List Span) (front : ℕ) (d : Span) → 0 < length box
    → box_sum w c box front ≡ total (branch_sum w c (drop 1 box) front) (get_or box 0 d).end - total (branch_sum w c (drop 1 box) front) (get_or box 0 d).first
box_sum-split w c [] front d some = absurd (omega arith)
box_sum-split w c (span ∷ box) front d some = refl

pub IsInBox-split : (c : ℕ) (box : List Span) (front cell : ℕ) (d : Span) → 0 < length box → IsInBox c box front cell
    → (n : ℕ) × ((get_or box 0 d).first ≤ n) × (n < (get_or box 0 d).end) × IsInBox c (drop 1 box) (front * c + n) cell
IsInBox-split c [] front cell d some inside = absurd (omega arith)
IsInBox-split c (span ∷ box) front cell d some inside = inside

pub IsInBox-join : (c : ℕ) (box : List Span) (front cell n : ℕ) (d : Span) → 0 < length box
    → (get_or box 0 d).first ≤ n → n < (get_or box 0 d).end → IsInBox c (drop 1 box) (front * c + n) cell → IsInBox c box front cell
IsInBox-join c [] front cell n d some low high inside = absurd (omega arith)
IsInBox-join c (span ∷ box) front cell n d some low high inside = (n, low, high, inside)

pub record NestedSplit (c : ℕ) (outer inner : List Span) (d : Span) : Type 0 where
  pub some : 0 < length inner
  pub first : (get_or outer 0 d).first ≤ (get_or inner 0 d).first
  pub ordered : (get_or inner 0 d).first ≤ (get_or inner 0 d).end
  pub last : (get_or inner 0 d).end ≤ (get_or outer 0 d).end
  pub within : (get_or outer 0 d).end ≤ c
  pub others : AreNested c (drop 1 outer) (drop 1 inner)

pub AreNested-split : (c : ℕ) (outer inner : List Span) (d : Span) → 0 < length outer → AreNested c outer inner → NestedSplit c outer inner d
AreNested-split c [] inner d some nested = absurd (omega arith)
AreNested-split c (o ∷ outer) [] d some nested = absurd nested
AreNested-split c (o ∷ outer) (i ∷ inner) d some nested =
    record { some = omega arith; first = nested.0; ordered = nested.1; last = nested.2; within = nested.3; others = nested.4 }

pub AreNested-length : (c : ℕ) (outer inner : List Span) → AreNested c outer inner → length outer ≡ length inner
AreNested-length c [] [] nested = refl
AreNested-length c [] (i ∷ inner) nested = absurd nested
AreNested-length c (o ∷ outer) [] nested = absurd nested
AreNested-length c (o ∷ outer) (i ∷ inner) nested = omega (arith, AreNested-length c outer inner nested.4)

pub AreNested-all : (c : ℕ) (outer inner : List Span) (k : ℕ) (d : Span) → AreNested c outer inner → k < length outer → IsSpan c (get_or outer k d)
AreNested-all c [] inner k d nested inside = absurd (omega arith)
AreNested-all c (o ∷ outer) [] k d nested inside = absurd nested
AreNested-all c (o ∷ outer) (i ∷ inner) zero d nested inside = record { ordered = omega (arith, nested.0, nested.1, nested.2); within = nested.3 }
AreNested-all c (o ∷ outer) (i ∷ inner) (suc k) d nested inside = AreNested-all c outer inner k d nested.4 (omega arith)

-- a row of cells is within its own
pub rows_within : (front c n k all : ℕ) → n < c → (front + 1) * c ^ suc k ≤ all → (front * c + n + 1) * c ^ k ≤ all
rows_within front c n k all below within =
    let row : (front * c + n + 1) * c ^ k ≤ ((front + 1) * c) * c ^ k = mul-le-mul_right (c ^ k) (omega arith) in
    omega (arith, row_power (front + 1) c k, row)

-- a place with one digit more is within all
pub place_fits : (front c n k all : ℕ) → n < c → (front + 1) * c ^ suc k ≤ all → front * c + n < all
place_fits front c n k all below within =
    let rows = rows_within front c n k all below within in
    let one : (front * c + n + 1) * 1 ≤ (front * c + n + 1) * c ^ k = mul-le-mul_left (front * c + n + 1) (power_some c k (omega arith)) in
    omega (arith, rows, one)

-- with no axis left a branch is a cell
pub branch-none : (w : ℕ → ℕ) (c : ℕ) (box : List Span) (front n : ℕ) → length box ≡ 0 → branch_sum w c box front n ≡ w (front * c + n)
branch-none w c [] front n none = refl
branch-none w c (span ∷ box) front n none = absurd (omega arith)

pub in_box-none : (c : ℕ) (box : List Span) (front cell : ℕ) → length box ≡ 0 → IsInBox c box front cell → cell ≡ front
in_box-none c [] front cell none inside = inside
in_box-none c (span ∷ box) front cell none inside = absurd (omega arith)
