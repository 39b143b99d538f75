-- Places of cells, and which cells are in the block of a point.
use Rattle.std.proofs.Common.{◌≡◌, ℕ, zero, suc, ◌+◌, ◌-◌, ◌*◌, ◌/◌, ◌^◌, ◌<◌, ◌≤◌, Bool, true, ◌&&◌, List, [], ◌∷◌, ℤ, pos, ◌-ℤ◌, ◌≤ℤ◌, unsigned_abs, length, get_or, drop, All, refl, arith, mul-le-mul_right, ap, sym, subst, ◌∙◌}
use Rattle.std.proofs.lemmas.Bool.{and_from}
use Rattle.std.proofs.lemmas.Int.{ints}
use Rattle.std.proofs.lemmas.List.Elements.{All-head, All-tail}
use Rattle.grid_index.specs.Block.{floor_quotient, cell_number, are_beside, is_in_block}
use Rattle.grid_index.specs.Boxes.{IsInBox, IsSpan, box_within, span_at}
use Rattle.grid_index.specs.Places.{place_from, digit, HasDigits}
use Rattle.grid_index.specs.declared.axis.Axis.{Axis}
use Rattle.grid_index.specs.declared.spans.Span.{Span}
use Rattle.grid_index.proofs.Quotients.{same_row, row_power, row_none}
use Rattle.grid_index.proofs.SpanLemmas.{span_at-beside, span_at-IsSpan}

-- a place is in the row of the digits in front
pub record IsInRow (c k front place : ℕ) : Type 0 where
  pub low : front * c ^ k ≤ place
  pub high : place < (front + 1) * c ^ k

row_in : (c k front n place : ℕ) → n < c → IsInRow c k (front * c + n) place → IsInRow c (suc k) front place
row_in c k front n place below at =
    let low : (front * c) * c ^ k ≤ (front * c + n) * c ^ k = mul-le-mul_right (c ^ k) (omega arith) in
    let high : (front * c + n + 1) * c ^ k ≤ ((front + 1) * c) * c ^ k = mul-le-mul_right (c ^ k) (omega arith) in
    record { low = omega (arith, row_power front c k, low, at.low); high = omega (arith, row_power (front + 1) c k, high, at.high) }

pub place-IsInRow : (c : ℕ) (axes : List Axis) (vertex : List ℤ) (front : ℕ) → HasDigits c axes vertex → IsInRow c (length axes) front (place_from c axes vertex front)
place-IsInRow c [] [] front digits = record { low = omega (arith, row_none front c); high = omega (arith, row_none (front + 1) c) }
place-IsInRow c [] (y ∷ vertex) front digits = absurd digits
place-IsInRow c (axis ∷ axes) [] front digits = absurd digits
place-IsInRow c (axis ∷ axes) (y ∷ vertex) front digits =
    row_in c (length axes) front (digit axis y) _ digits.2 (place-IsInRow c axes vertex (front * c + digit axis y) digits.3)

pub box-IsInRow : (c : ℕ) (box : List Span) (front cell : ℕ) → All (IsSpan c) box → IsInBox c box front cell → IsInRow c (length box) front cell
box-IsInRow c [] front cell spans inside = record { low = omega (arith, inside, row_none front c); high = omega (arith, inside, row_none (front + 1) c) }
box-IsInRow c (span ∷ box) front cell spans inside =
    let first = All-head (IsSpan c) span box spans in
    row_in c (length box) front inside.0 cell (omega (arith, inside.2, first.within)) (box-IsInRow c box (front * c + inside.0) cell (All-tail (IsSpan c) span box spans) inside.3)

pub length-box : (c reach : ℕ) (axes : List Axis) (point : List ℤ) → length axes ≡ length point → length (box_within c reach axes point) ≡ length axes
length-box c reach [] [] alike = refl
length-box c reach [] (x ∷ point) alike = refl
length-box c reach (axis ∷ axes) [] alike = absurd (omega arith)
length-box c reach (axis ∷ axes) (x ∷ point) alike = omega (arith, length-box c reach axes point (omega arith))

-- of a vertex whose cell is in a box, each digit is in its span
same_digit : (c k front m n cell : ℕ) → IsInRow c k (front * c + m) cell → IsInRow c k (front * c + n) cell → m ≡ n
same_digit c k front m n cell at_m at_n =
    omega (arith, same_row (front * c + m) (front * c + n) (c ^ k) cell at_m.low at_m.high at_n.low at_n.high)

natural : (axis : Axis) (y : ℤ) → axis.least ≤ℤ y → y -ℤ axis.least ≡ pos (unsigned_abs (y -ℤ axis.least))
natural axis y above = omega (arith, ints)

pub beside_digit : (c reach : ℕ) (axis : Axis) (x y : ℤ) → 0 < axis.width → reach ≤ axis.width → axis.least ≤ℤ y
    → (span_at c axis.width reach (x -ℤ axis.least)).first ≤ digit axis y → digit axis y < (span_at c axis.width reach (x -ℤ axis.least)).end
    → are_beside (cell_number axis x) (cell_number axis y) ≡ true
beside_digit c reach axis x y some small above low high =
    rw (natural axis y above) (span_at-beside c axis.width reach (x -ℤ axis.least) (digit axis y) some small low high)

-- a vertex whose cell is in a box of so small a reach is in the block
pub in_block_from_box : (c reach : ℕ) (axes : List Axis) (point vertex : List ℤ) (front : ℕ)
    → length axes ≡ length point → All (λ (axis : Axis). reach ≤ axis.width) axes → All (IsSpan c) (box_within c reach axes point) → HasDigits c axes vertex
    → IsInBox c (box_within c reach axes point) front (place_from c axes vertex front) → is_in_block axes point vertex ≡ true
in_block_from_box c reach [] point vertex front alike wide spans digits inside = refl
in_block_from_box c reach (axis ∷ axes) [] vertex front alike wide spans digits inside = absurd (omega arith)
in_block_from_box c reach (axis ∷ axes) (x ∷ point) [] front alike wide spans digits inside = absurd digits
in_block_from_box c reach (axis ∷ axes) (x ∷ point) (y ∷ vertex) front alike wide spans digits inside =
    let span = span_at c axis.width reach (x -ℤ axis.least) in
    let box = box_within c reach axes point in
    let others = All-tail (IsSpan c) span box spans in
    let same_length = length-box c reach axes point (omega arith) in
    let by_box = box-IsInRow c box (front * c + inside.0) _ others inside.3 in
    let by_box' = subst (λ (k : ℕ). IsInRow c k (front * c + inside.0) (place_from c axes vertex (front * c + digit axis y))) same_length by_box in
    let by_place = place-IsInRow c axes vertex (front * c + digit axis y) digits.3 in
    let same : inside.0 ≡ digit axis y = same_digit c (length axes) front inside.0 (digit axis y) _ by_box' by_place in
    and_from _ _
    (beside_digit c reach axis x y digits.0 (All-head (λ (a : Axis). reach ≤ a.width) axis axes wide) digits.1 (omega (arith, same, inside.1)) (omega (arith, same, inside.2)))
    (in_block_from_box c reach axes point vertex (front * c + digit axis y) (omega arith) (All-tail (λ (a : Axis). reach ≤ a.width) axis axes wide) others digits.3
    (subst (λ (n : ℕ). IsInBox c box (front * c + n) (place_from c axes vertex (front * c + digit axis y))) same inside.3))

-- the first digit and the others
pub record DigitsSplit (c : ℕ) (axes : List Axis) (vertex : List ℤ) (none : Axis) : Type 0 where
  pub some : 0 < length vertex
  pub width : 0 < (get_or axes 0 none).width
  pub below : digit (get_or axes 0 none) (get_or vertex 0 (pos 0)) < c
  pub others : HasDigits c (drop 1 axes) (drop 1 vertex)
  pub place : (so_far : ℕ) → place_from c axes vertex so_far ≡ place_from c (drop 1 axes) (drop 1 vertex) (so_far * c + digit (get_or axes 0 none) (get_or vertex 0 (pos 0)))

pub HasDigits-split : (c : ℕ) (axes : List Axis) (vertex : List ℤ) (none : Axis) → 0 < length axes → HasDigits c axes vertex → DigitsSplit c axes vertex none
HasDigits-split c [] vertex none some digits = absurd (omega arith)
HasDigits-split c (axis ∷ axes) [] none some digits = absurd digits
HasDigits-split c (axis ∷ axes) (y ∷ vertex) none some digits =
    record { some = omega arith; width = digits.0; below = digits.2; others = digits.3; place = λ so_far. refl }
