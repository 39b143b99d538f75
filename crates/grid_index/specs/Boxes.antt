-- Boxes of cells, and what looking through one costs. The project's own.
use Rattle.std.specs.Prelude.{◌≡◌, ℕ, zero, suc, ◌+◌, ◌-◌, ◌*◌, ◌/◌, ◌==◌, ◌<◌, ◌≤◌, min, nat_lt, if◌then◌else◌, ℤ, pos, negsuc, ◌-ℤ◌, List, [], ◌∷◌, count_by, ⊤}
use Rattle.grid_index.specs.declared.axis.Axis.{Axis}
use Rattle.grid_index.specs.declared.spans.Span.{Span}

-- the cells that overlap what is within reach of a coordinate that lies so far past the least one
abbrev pub span_at : (per_axis width reach : ℕ) → ℤ → Span
span_at per_axis width reach (pos past) =
    record { first = min ((past - reach) / width) per_axis; end = min ((past + reach) / width + 1) per_axis }
span_at per_axis width reach (negsuc short) =
    record { first = 0; end = if nat_lt short reach then min ((reach - suc short) / width + 1) per_axis else 0 }

-- the same of a coordinate on an axis
abbrev pub span_within : (per_axis reach : ℕ) → Axis → ℤ → Span
span_within per_axis reach axis x = span_at per_axis axis.width reach (x -ℤ axis.least)

-- the box of cells that overlap what is within reach of a point on every axis
abbrev pub box_within : (per_axis reach : ℕ) → List Axis → (point : List ℤ) → List Span
box_within per_axis reach (axis ∷ axes) (x ∷ point) = span_within per_axis reach axis x ∷ box_within per_axis reach axes point
box_within per_axis reach _ _ = []

-- a box with some axes in front, which have one number
abbrev pub padded : ℕ → List Span → List Span
padded zero box = box
padded (suc k) box = record { first = 0; end = 1 } ∷ padded k box

-- a cell is in a box, whose cells have these digits in front
abbrev pub IsInBox : (per_axis : ℕ) → List Span → (front cell : ℕ) → Type 0
IsInBox per_axis [] front cell = cell ≡ front
IsInBox per_axis (span ∷ spans) front cell =
    (n : ℕ) × (span.first ≤ n) × (n < span.end) × IsInBox per_axis spans (front * per_axis + n) cell

-- the numbers of a span are of cells
pub record IsSpan (per_axis : ℕ) (span : Span) : Type 0 where
  pub ordered : span.first ≤ span.end
  pub within : span.end ≤ per_axis

-- a box of as many axes lies in another
abbrev pub AreNested : (per_axis : ℕ) (outer inner : List Span) → Type 0
AreNested per_axis [] [] = ⊤
AreNested per_axis (o ∷ outer) (i ∷ inner) =
    (o.first ≤ i.first) × (i.first ≤ i.end) × (i.end ≤ o.end) × (o.end ≤ per_axis) × AreNested per_axis outer inner
AreNested per_axis _ _ = ⊥

-- the sum of f over the numbers below n
abbrev pub total : (ℕ → ℕ) → ℕ → ℕ
total f zero = 0
total f (suc n) = total f n + f n

-- the sum of w over the cells of a box, whose cells have these digits in front
abbrev pub box_sum : (w : ℕ → ℕ) (per_axis : ℕ) → List Span → (front : ℕ) → ℕ
box_sum w per_axis [] front = w front
box_sum w per_axis (span ∷ spans) front =
    let on : ℕ → ℕ = λ n. box_sum w per_axis spans (front * per_axis + n) in total on span.end - total on span.first

-- the same of the cells that have the number n on the first axis that is left
abbrev pub branch_sum : (w : ℕ → ℕ) (per_axis : ℕ) → List Span → (front n : ℕ) → ℕ
branch_sum w per_axis spans front n = box_sum w per_axis spans (front * per_axis + n)

-- looking at a cell: a step for the cell, and one for each of its vertices
abbrev pub cell_cost : (places : List ℕ) (cell : ℕ) → ℕ
cell_cost places cell = 1 + count_by (λ place. place == cell) places
