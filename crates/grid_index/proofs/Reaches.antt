-- What lies within reach of a point has its cell in the box of that reach.
use Rattle.std.proofs.Common.{◌≡◌, ℕ, zero, suc, ◌+◌, ◌-◌, ◌*◌, ◌^◌, ◌<◌, ◌≤◌, List, [], ◌∷◌, ℤ, pos, ◌-ℤ◌, ◌≤ℤ◌, unsigned_abs, length, get_or, All, refl, sym, ◌∙◌, inl, inr, arith, rules, mul-le-mul}
use Rattle.std.specs.List.{zip}
use Rattle.std.proofs.lemmas.Bool.{cases_lt}
use Rattle.std.proofs.lemmas.Int.{ints}
use Rattle.std.proofs.lemmas.List.{same_lists}
use Rattle.std.proofs.lemmas.List.Elements.{All-head, All-tail, All-cons, All-nil}
use Rattle.std.proofs.lemmas.List.Sums.{sum_by-cons}
use Rattle.fixed_num.specs.Norm.{square_distance, square_of_difference}
use Rattle.fixed_num.specs.Numbers.{IsCoordinate}
use Rattle.grid_index.specs.Boxes.{IsInBox, IsSpan, AreNested, box_within, span_at, span_within}
use Rattle.grid_index.specs.Places.{place_from, digit, HasDigits}
use Rattle.grid_index.specs.declared.axis.Axis.{Axis}
use Rattle.grid_index.specs.declared.spans.Span.{Span}
use Rattle.grid_index.proofs.Blocks.{length-box}
use Rattle.grid_index.proofs.SpanLemmas.{span_at-Covers, span_at-Encloses, span_at-IsSpan}

square_is : (n : ℕ) → n ^ 2 ≡ n * n
square_is n = search rules

root_within : (n r : ℕ) → n * n ≤ r * r → n ≤ r
root_within n r less =
    elim (cases_lt r n) [
      | inl past ↦ let more : (r + 1) * (r + 1) ≤ n * n = mul-le-mul (omega arith) (omega arith) in absurd (omega arith)
      | inr within ↦ within
    ]

split : (x y : ℤ) (a b : List ℤ) → square_distance (x ∷ a) (y ∷ b) ≡ unsigned_abs (x -ℤ y) * unsigned_abs (x -ℤ y) + square_distance a b
split x y a b = omega (arith, sum_by-cons square_of_difference (x, y) (zip a b), square_is (unsigned_abs (x -ℤ y)))

natural : (axis : Axis) (x y : ℤ) → axis.least ≤ℤ y → unsigned_abs ((x -ℤ axis.least) -ℤ pos (unsigned_abs (y -ℤ axis.least))) ≡ unsigned_abs (x -ℤ y)
natural axis x y above = omega (arith, ints)

pub in_box_from_reach : (c reach : ℕ) (axes : List Axis) (point vertex : List ℤ) (front : ℕ) → length axes ≡ length point → HasDigits c axes vertex
    → square_distance point vertex ≤ reach * reach → IsInBox c (box_within c reach axes point) front (place_from c axes vertex front)
in_box_from_reach c reach [] point [] front alike digits near = refl
in_box_from_reach c reach [] point (y ∷ vertex) front alike digits near = absurd digits
in_box_from_reach c reach (axis ∷ axes) [] vertex front alike digits near = absurd (omega arith)
in_box_from_reach c reach (axis ∷ axes) (x ∷ point) [] front alike digits near = absurd digits
in_box_from_reach c reach (axis ∷ axes) (x ∷ point) (y ∷ vertex) front alike digits near =
    let parts = split x y point vertex in
    let on_axis : unsigned_abs (x -ℤ y) ≤ reach = root_within _ reach (omega (arith, parts, near)) in
    let covers = span_at-Covers c axis.width reach (x -ℤ axis.least) (unsigned_abs (y -ℤ axis.least)) digits.0 digits.2 (omega (arith, natural axis x y digits.1, on_axis)) in
    (digit axis y, covers.first, covers.last, in_box_from_reach c reach axes point vertex (front * c + digit axis y) (omega arith) digits.3 (omega (arith, parts, near)))

pub box-spans : (c reach : ℕ) (axes : List Axis) (point : List ℤ) → All (λ (axis : Axis). 0 < axis.width) axes → All (IsSpan c) (box_within c reach axes point)
box-spans c reach [] point some = All-nil (IsSpan c)
box-spans c reach (axis ∷ axes) [] some = All-nil (IsSpan c)
box-spans c reach (axis ∷ axes) (x ∷ point) some =
    All-cons (IsSpan c) (span_at c axis.width reach (x -ℤ axis.least)) (box_within c reach axes point)
    (span_at-IsSpan c axis.width reach (x -ℤ axis.least) (All-head (λ (a : Axis). 0 < a.width) axis axes some))
    (box-spans c reach axes point (All-tail (λ (a : Axis). 0 < a.width) axis axes some))

pub box-nested : (c reach farther : ℕ) (axes : List Axis) (point : List ℤ) → All (λ (axis : Axis). 0 < axis.width) axes → reach ≤ farther
    → AreNested c (box_within c farther axes point) (box_within c reach axes point)
box-nested c reach farther [] point some more = tt
box-nested c reach farther (axis ∷ axes) [] some more = tt
box-nested c reach farther (axis ∷ axes) (x ∷ point) some more =
    let wide = All-head (λ (a : Axis). 0 < a.width) axis axes some in
    let o = x -ℤ axis.least in
    let encloses = span_at-Encloses c axis.width reach farther o wide more in
    let inner = span_at-IsSpan c axis.width reach o wide in
    let outer = span_at-IsSpan c axis.width farther o wide in
    (encloses.first, inner.ordered, encloses.last, outer.within, box-nested c reach farther axes point (All-tail (λ (a : Axis). 0 < a.width) axis axes some) more)

-- how far two points may be
pub square_distance-le : (a b : List ℤ) → All IsCoordinate a → All IsCoordinate b → square_distance a b ≤ length a * (4 * 10 ^ 24)
square_distance-le [] b in_a in_b = omega arith
square_distance-le (x ∷ a) [] in_a in_b = omega arith
square_distance-le (x ∷ a) (y ∷ b) in_a in_b =
    let x_in = All-head IsCoordinate x a in_a in
    let y_in = All-head IsCoordinate y b in_b in
    let apart : unsigned_abs (x -ℤ y) ≤ 2 * 10 ^ 12 = omega (arith, ints) in
    let square : unsigned_abs (x -ℤ y) * unsigned_abs (x -ℤ y) ≤ (2 * 10 ^ 12) * (2 * 10 ^ 12) = mul-le-mul apart apart in
    omega (arith, split x y a b, square, square_distance-le a b (All-tail IsCoordinate x a in_a) (All-tail IsCoordinate y b in_b))

-- a box read span by span
pub get_or-box : (c reach : ℕ) (axes : List Axis) (point : List ℤ) (k : ℕ) (d : Span) (none : Axis) → length axes ≡ length point → k < length axes
    → get_or (box_within c reach axes point) k d ≡ span_within c reach (get_or axes k none) (get_or point k (pos 0))
get_or-box c reach [] point k d none alike inside = absurd (omega arith)
get_or-box c reach (axis ∷ axes) [] k d none alike inside = absurd (omega arith)
get_or-box c reach (axis ∷ axes) (x ∷ point) zero d none alike inside = refl
get_or-box c reach (axis ∷ axes) (x ∷ point) (suc k) d none alike inside = get_or-box c reach axes point k d none (omega arith) (omega arith)

pub box-is : (spans : List Span) (c reach : ℕ) (axes : List Axis) (point : List ℤ) (none : Axis) → length axes ≡ length point → length spans ≡ length axes
    → ((k : ℕ) (d : Span) → k < length axes → get_or spans k d ≡ span_within c reach (get_or axes k none) (get_or point k (pos 0)))
    → spans ≡ box_within c reach axes point
box-is spans c reach axes point none alike one_for_each each =
    same_lists spans (box_within c reach axes point) (one_for_each ∙ sym (length-box c reach axes point alike))
    (λ k d inside.
    let on : k < length axes = omega (arith, one_for_each, inside) in
    each k d on ∙ sym (get_or-box c reach axes point k d none alike on))
