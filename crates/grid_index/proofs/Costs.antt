-- What looking through a box costs at most.
use Rattle.std.proofs.Common.{◌≡◌, ℕ, zero, suc, ◌+◌, ◌-◌, ◌*◌, ◌^◌, ◌<◌, ◌≤◌, Bool, true, false, eqb, ◌&&◌, List, [], ◌∷◌, ℤ, ◌-ℤ◌, length, map, All, filter, refl, sym, ap, subst, ◌∙◌, arith, pow-suc, mul-le-mul_right, mul-le-mul_left}
use Rattle.std.specs.List.{count_by, sum_by}
use Rattle.std.proofs.lemmas.Bool.{eqb-true, and_from}
use Rattle.std.proofs.lemmas.List.Elements.{All-head, All-tail, All-cons, All-nil}
use Rattle.std.proofs.lemmas.List.Sums.{sum_by-cons, length-filter, count_by-le-length}
use Rattle.grid_index.specs.Block.{is_in_block, block_of}
use Rattle.grid_index.specs.Boxes.{IsInBox, IsSpan, box_sum, branch_sum, total, box_within, cell_cost, span_at}
use Rattle.grid_index.specs.Cells.{Cells}
use Rattle.grid_index.specs.Places.{place_from, place_in, places_in, HasDigits}
use Rattle.grid_index.specs.declared.axis.Axis.{Axis}
use Rattle.grid_index.specs.declared.spans.Span.{Span}
use Rattle.grid_index.proofs.Blocks.{in_block_from_box, length-box}
use Rattle.grid_index.proofs.Quotients.{row_power, row_none}
use Rattle.grid_index.proofs.Reaches.{box-spans}
use Rattle.grid_index.proofs.SpanLemmas.{span_at-few}
use Rattle.grid_index.proofs.Totals.{total-le, total-both, total-steps, total-one, counted_once, has, one_if}

row_bound : (f upto : ℕ → ℕ) (first last low high : ℕ) → first ≤ last → total f last + upto first ≤ upto last + total f first → low ≤ upto first → upto last ≤ high
    → total f last - total f first + low ≤ high
row_bound f upto first last low high ordered steps from to = omega (arith, steps, total-le f first last ordered)

-- a sum over a box is at most that over the row of places that it is in
pub box_sum-row : (w z : ℕ → ℕ) (c : ℕ) (box : List Span) (front : ℕ) → All (IsSpan c) box
    → ((cell : ℕ) → IsInBox c box front cell → w cell ≤ z cell)
    → box_sum w c box front + total z (front * c ^ length box) ≤ total z ((front + 1) * c ^ length box)
box_sum-row w z c [] front spans less =
    let here : total z (front * c ^ zero) ≡ total z front = ap (total z) (row_none front c) in
    let next : total z ((front + 1) * c ^ zero) ≡ total z (suc front) = let one : (front + 1) * c ^ zero ≡ suc front = omega (arith, row_none (front + 1) c) in ap (total z) one in
    omega (arith, here, next, less front refl)
box_sum-row w z c (span ∷ box) front spans less =
    let k = length box in
    let first = All-head (IsSpan c) span box spans in
    let on : ℕ → ℕ = λ n. box_sum w c box (front * c + n) in
    let upto : ℕ → ℕ = λ n. total z ((front * c + n) * c ^ k) in
    let steps = total-steps on upto span.first span.end first.ordered
    (λ n low high.
    let next : front * c + n + 1 ≡ front * c + (n + 1) = omega arith in
    let row = ap (λ (m : ℕ). total z (m * c ^ k)) next in
    omega (arith, row, box_sum-row w z c box (front * c + n) (All-tail (IsSpan c) span box spans) (λ cell inside. less cell (n, low, high, inside)))) in
    let low = total-le z (front * c ^ suc k) ((front * c + span.first) * c ^ k)
    (let more : (front * c) * c ^ k ≤ (front * c + span.first) * c ^ k = mul-le-mul_right (c ^ k) (omega arith) in omega (arith, row_power front c k, more)) in
    let high = total-le z ((front * c + span.end) * c ^ k) ((front + 1) * c ^ suc k)
    (let more : (front * c + span.end) * c ^ k ≤ ((front + 1) * c) * c ^ k = mul-le-mul_right (c ^ k) (omega (arith, first.within)) in omega (arith, row_power (front + 1) c k, more)) in
    row_bound on upto span.first span.end (total z (front * c ^ suc k)) (total z ((front + 1) * c ^ suc k)) first.ordered steps low high

-- a sum of parts
pub box_sum-both : (u v w : ℕ → ℕ) (c : ℕ) (box : List Span) (front : ℕ) → All (IsSpan c) box → ((n : ℕ) → w n ≡ u n + v n)
    → box_sum w c box front ≡ box_sum u c box front + box_sum v c box front
box_sum-both u v w c [] front spans both = both front
box_sum-both u v w c (span ∷ box) front spans both =
    let first = All-head (IsSpan c) span box spans in
    let in_u : ℕ → ℕ = λ n. box_sum u c box (front * c + n) in
    let in_v : ℕ → ℕ = λ n. box_sum v c box (front * c + n) in
    let parts = total-both in_u in_v (λ n. box_sum w c box (front * c + n))
    (λ n. box_sum-both u v w c box (front * c + n) (All-tail (IsSpan c) span box spans) both) in
    omega (arith, parts span.first, parts span.end, total-le in_u span.first span.end first.ordered, total-le in_v span.first span.end first.ordered)

-- at most so many cells where no span has more
few_on : (f : ℕ → ℕ) (most : ℕ) (first last : ℕ) → first ≤ last → last ≤ first + 3 → ((n : ℕ) → f n ≤ most) → total f last ≤ total f first + 3 * most
few_on f most first last ordered few less =
    let steps = total-steps f (λ n. n * most) first last ordered (λ n low high. omega (arith, less n)) in
    let width : last * most ≤ (first + 3) * most = mul-le-mul_right most few in
    omega (arith, steps, width)

pub few_cells : (c : ℕ) (box : List Span) (front : ℕ) → All (IsSpan c) box → All (λ (span : Span). span.end ≤ span.first + 3) box → box_sum (λ _. 1) c box front ≤ 3 ^ length box
few_cells c [] front spans few = omega arith
few_cells c (span ∷ box) front spans few =
    let first = All-head (IsSpan c) span box spans in
    let small = few_on (λ n. box_sum (λ _. 1) c box (front * c + n)) (3 ^ length box) span.first span.end first.ordered (All-head (λ (s : Span). s.end ≤ s.first + 3) span box few)
    (λ n. few_cells c box (front * c + n) (All-tail (IsSpan c) span box spans) (All-tail (λ (s : Span). s.end ≤ s.first + 3) span box few)) in
    omega (arith, pow-suc 3 (length box), small)

-- counts over vertices and over their places
count-map : {X Y : Type 0} (f : X → Y) (p : Y → Bool) (xs : List X) → count_by p (map f xs) ≡ count_by (λ x. p (f x)) xs
count-map f p [] = refl
count-map f p (x ∷ xs) =
    omega (arith, sum_by-cons (λ y. one_if (p y)) (f x) (map f xs), sum_by-cons (λ y. one_if (p (f y))) x xs, count-map f p xs)

one_more : (p q : Bool) → (p ≡ true → q ≡ true) → one_if p ≤ one_if q
one_more true q follows = rw (follows refl) (omega arith)
one_more false true follows = omega arith
one_more false false follows = omega arith

-- what passes a test that more pass is not more
count-le : {X : Type 0} (P : X → Type 0) (p q : X → Bool) (xs : List X) → All P xs → ((x : X) → P x → p x ≡ true → q x ≡ true) → count_by p xs ≤ count_by q xs
count-le P p q [] all follows = omega arith
count-le P p q (x ∷ xs) all follows =
    omega (arith, sum_by-cons (λ y. one_if (p y)) x xs, sum_by-cons (λ y. one_if (q y)) x xs, one_more (p x) (q x) (follows x (All-head P x xs all)), count-le P p q xs (All-tail P x xs all) follows)

-- a box is looked through at the cost of its cells and of its vertices
cost_parts : (c : ℕ) (places : List ℕ) (box : List Span) → All (IsSpan c) box
    → box_sum (cell_cost places) c box 0 ≡ box_sum (λ _. 1) c box 0 + box_sum (λ m. count_by (λ place. eqb place m) places) c box 0
cost_parts c places box spans = box_sum-both (λ _. 1) (λ m. count_by (λ place. eqb place m) places) (cell_cost places) c box 0 spans (λ m. refl)

-- the vertices in a box are no more than all that pass a test that each of them passes
box_count-le : (cells : Cells) (mesh : List (List ℤ)) (box : List Span) (test : List ℤ → Bool) → All (IsSpan cells.per_axis) box
    → All (HasDigits cells.per_axis cells.axes) mesh
    → ((vertex : List ℤ) → HasDigits cells.per_axis cells.axes vertex → IsInBox cells.per_axis box 0 (place_in cells vertex) → test vertex ≡ true)
    → box_sum (λ m. count_by (λ place. eqb place m) (places_in cells mesh)) cells.per_axis box 0 ≤ count_by test mesh
box_count-le cells mesh box test spans digits passes =
    let n = cells.per_axis ^ length box in
    let each : ℕ → ℕ = λ m. count_by (λ place. eqb place m) (places_in cells mesh) in
    let kept : ℕ → ℕ = λ m. count_by (has (place_in cells) test m) mesh in
    let row = box_sum-row each kept cells.per_axis box 0 spans
    (λ cell inside. rw (count-map (place_in cells) (λ place. eqb place cell) mesh)
    (count-le (HasDigits cells.per_axis cells.axes) (λ vertex. eqb (place_in cells vertex) cell) (has (place_in cells) test cell) mesh digits
    (λ vertex its here.
    let same = eqb-true (place_in cells vertex) cell here in
    and_from _ _ here (passes vertex its (subst (IsInBox cells.per_axis box 0) (sym same) inside))))) in
    let last : total kept ((0 + 1) * n) ≡ total kept n = let one : (0 + 1) * n ≡ n = omega arith in ap (total kept) one in
    omega (arith, row, last, counted_once (place_in cells) test mesh n)

-- every cell and every vertex once
pub box_cost-le : (cells : Cells) (mesh : List (List ℤ)) (box : List Span) → All (IsSpan cells.per_axis) box → All (HasDigits cells.per_axis cells.axes) mesh
    → box_sum (cell_cost (places_in cells mesh)) cells.per_axis box 0 ≤ cells.per_axis ^ length box + length mesh
box_cost-le cells mesh box spans digits =
    let n = cells.per_axis ^ length box in
    let one : ℕ → ℕ = λ _. 1 in
    let row = box_sum-row one one cells.per_axis box 0 spans (λ cell inside. omega arith) in
    let last : total one ((0 + 1) * n) ≡ total one n = let row : (0 + 1) * n ≡ n = omega arith in ap (total one) row in
    let counts = box_count-le cells mesh box (λ vertex. true) spans digits (λ vertex its inside. refl) in
    omega (arith, row, last, total-one n, counts, cost_parts cells.per_axis (places_in cells mesh) box spans, count_by-le-length (λ (vertex : List ℤ). true) mesh)

few_spans : (c reach : ℕ) (axes : List Axis) (point : List ℤ) → All (λ (axis : Axis). 0 < axis.width) axes → All (λ (axis : Axis). reach ≤ axis.width) axes
    → All (λ (span : Span). span.end ≤ span.first + 3) (box_within c reach axes point)
few_spans c reach [] point some wide = All-nil (λ (span : Span). span.end ≤ span.first + 3)
few_spans c reach (axis ∷ axes) [] some wide = All-nil (λ (span : Span). span.end ≤ span.first + 3)
few_spans c reach (axis ∷ axes) (x ∷ point) some wide =
    All-cons (λ (span : Span). span.end ≤ span.first + 3) (span_at c axis.width reach (x -ℤ axis.least)) (box_within c reach axes point)
    (span_at-few c axis.width reach (x -ℤ axis.least) (All-head (λ (a : Axis). 0 < a.width) axis axes some) (All-head (λ (a : Axis). reach ≤ a.width) axis axes wide))
    (few_spans c reach axes point (All-tail (λ (a : Axis). 0 < a.width) axis axes some) (All-tail (λ (a : Axis). reach ≤ a.width) axis axes wide))

-- the box of a reach that is no more than the least width: three cells on each axis, and no vertex that is not in the block
pub near_cost-le : (cells : Cells) (mesh : List (List ℤ)) (point : List ℤ) (reach : ℕ) → length cells.axes ≡ length point
    → All (λ (axis : Axis). 0 < axis.width) cells.axes → All (λ (axis : Axis). reach ≤ axis.width) cells.axes → All (HasDigits cells.per_axis cells.axes) mesh
    → box_sum (cell_cost (places_in cells mesh)) cells.per_axis (box_within cells.per_axis reach cells.axes point) 0 ≤ 3 ^ length cells.axes + length (block_of cells mesh point)
near_cost-le cells mesh point reach alike some wide digits =
    let c = cells.per_axis in
    let box = box_within c reach cells.axes point in
    let spans = box-spans c reach cells.axes point some in
    let small = few_cells c box 0 spans (few_spans c reach cells.axes point some wide) in
    let same : 3 ^ length box ≡ 3 ^ length cells.axes = ap (λ (k : ℕ). 3 ^ k) (length-box c reach cells.axes point alike) in
    let counts = box_count-le cells mesh box (is_in_block cells.axes point) spans digits
    (λ vertex its inside. in_block_from_box c reach cells.axes point vertex 0 alike wide spans its inside) in
    omega (arith, small, same, counts, cost_parts c (places_in cells mesh) box spans, length-filter (is_in_block cells.axes point) mesh)
