-- Looking through boxes of cells, number by number.
use Rattle.std.proofs.Common.{◌≡◌, ℕ, zero, suc, ◌+◌, ◌-◌, ◌*◌, ◌^◌, ◌<◌, ◌≤◌, List, [], ◌∷◌, ℤ, length, get_or, refl, subst, sym, ap, ◌∙◌, inl, inr, arith}
use Rattle.std.proofs.lemmas.Bool.{cases_lt}
use Rattle.grid_index.specs.Boxes.{IsInBox, IsSpan, AreNested, box_sum, branch_sum, total}
use Rattle.grid_index.specs.Candidates.{Improves, GoesBefore, IsFound}
use Rattle.grid_index.specs.GriddedMesh.{GriddedMesh}
use Rattle.grid_index.specs.Looking.{MayLook, HasLooked, MayLookRound, HasLookedRound, cost_in, place_of}
use Rattle.grid_index.specs.declared.candidate.Search.{Search}
use Rattle.grid_index.specs.declared.spans.Span.{Span}
use Rattle.grid_index.proofs.Ranks.{improves-none, improves-then}
use Rattle.grid_index.proofs.Totals.{total-le, total-more, total-steps}

-- sums of steps, over any costs
room_here : (f k : ℕ → ℕ) (s before first n last low high limit : ℕ) → f n ≡ total k high - total k low → s + total f first ≡ before + total f n
    → before + total f last < limit + total f first → n < last → low ≤ high → s + total k high < limit + total k low
room_here f k s before first n last low high limit cost steps room below ordered =
    omega (arith, cost, steps, room, total-le f (n + 1) last (omega arith), total-more f n, total-le k low high ordered)

steps_more : (f k : ℕ → ℕ) (s before after first n low high : ℕ) → f n ≡ total k high - total k low → s + total f first ≡ before + total f n
    → after + total k low ≡ s + total k high → low ≤ high → after + total f first ≡ before + total f (n + 1)
steps_more f k s before after first n low high cost steps then ordered = omega (arith, cost, steps, then, total-more f n, total-le k low high ordered)

room_leaf : (f : ℕ → ℕ) (s before first n last limit : ℕ) → s + total f first ≡ before + total f n → before + total f last < limit + total f first → n < last → s + f n < limit
room_leaf f s before first n last limit steps room below = omega (arith, steps, room, total-le f (n + 1) last (omega arith), total-more f n)

steps_leaf : (f : ℕ → ℕ) (s before after first n : ℕ) → s + total f first ≡ before + total f n → after ≡ s + f n → after + total f first ≡ before + total f (n + 1)
steps_leaf f s before after first n steps then = omega (arith, steps, then, total-more f n)

pub looked_none : (g : GriddedMesh) (point : List ℤ) (within : List Span) (front first : ℕ) (s : Search) → IsFound g.mesh point s.best → HasLooked g point within front first first s s
looked_none g point within front first s found =
    record { steps = refl; improved = improves-none g.mesh point s.best found; looked = λ u n inside low high at. absurd (omega arith) }

pub may_here : (count : ℕ) (g : GriddedMesh) (point : List ℤ) (span : Span) (within : List Span) (front first n last : ℕ) (before s : Search)
    → IsSpan g.cells.per_axis span → first ≤ n → n < last → MayLook count g point (span ∷ within) front first last before → HasLooked g point (span ∷ within) front first n before s
    → MayLook count g point within (front * g.cells.per_axis + n) span.first span.end s
may_here count g point span within front first n last before s is low below may has = record {
  ordered = is.ordered;
  numbers = is.within;
  cells = λ m cell from to at. may.cells n cell low below (m, from, to, at);
  found = has.improved.found;
  room = room_here (branch_sum (cost_in g) g.cells.per_axis (span ∷ within) front) (branch_sum (cost_in g) g.cells.per_axis within (front * g.cells.per_axis + n))
      s.steps before.steps first n last span.first span.end (2 ^ 64) refl has.steps may.room below is.ordered;
}

-- one number more
pub looked_more : (g : GriddedMesh) (point : List ℤ) (span : Span) (within : List Span) (front first n : ℕ) (before s after : Search)
    → IsSpan g.cells.per_axis span → HasLooked g point (span ∷ within) front first n before s
    → HasLooked g point within (front * g.cells.per_axis + n) span.first span.end s after → HasLooked g point (span ∷ within) front first (n + 1) before after
looked_more g point span within front first n before s after is has then = record {
  steps = steps_more (branch_sum (cost_in g) g.cells.per_axis (span ∷ within) front) (branch_sum (cost_in g) g.cells.per_axis within (front * g.cells.per_axis + n))
      s.steps before.steps after.steps first n span.first span.end refl has.steps then.steps is.ordered;
  improved = improves-then g.mesh point before.best s.best after.best has.improved then.improved;
  looked = λ u m inside low high at. elim (cases_lt m n) [
    | inl earlier ↦ then.improved.kept u (has.looked u m inside low earlier at)
    | inr here ↦
        let same : m ≡ n = omega arith in
        let at_n = subst (λ (k : ℕ). IsInBox g.cells.per_axis (span ∷ within) (front * g.cells.per_axis + k) (place_of g u)) same at in
        then.looked u at_n.0 inside at_n.1 at_n.2 at_n.3
  ];
}

-- the same at a cell
pub may_cell : (count : ℕ) (g : GriddedMesh) (point : List ℤ) (front first n last : ℕ) (before : Search) → first ≤ n → n < last → MayLook count g point [] front first last before
    → front * g.cells.per_axis + n < count
may_cell count g point front first n last before low below may = may.cells n (front * g.cells.per_axis + n) low below refl

pub room_at_cell : (count : ℕ) (g : GriddedMesh) (point : List ℤ) (front first n last : ℕ) (before s : Search) → n < last → MayLook count g point [] front first last before
    → HasLooked g point [] front first n before s → s.steps + cost_in g (front * g.cells.per_axis + n) < 2 ^ 64
room_at_cell count g point front first n last before s below may has =
    room_leaf (branch_sum (cost_in g) g.cells.per_axis [] front) s.steps before.steps first n last (2 ^ 64) has.steps may.room below

pub cell_more : (g : GriddedMesh) (point : List ℤ) (front first n : ℕ) (before s after : Search) → HasLooked g point [] front first n before s
    → after.steps ≡ s.steps + cost_in g (front * g.cells.per_axis + n) → Improves g.mesh point s.best after.best
    → ((u : ℕ) → u < length g.mesh → place_of g u ≡ front * g.cells.per_axis + n → GoesBefore g.mesh point after.best u)
    → HasLooked g point [] front first (n + 1) before after
cell_more g point front first n before s after has steps improved looked = record {
  steps = steps_leaf (branch_sum (cost_in g) g.cells.per_axis [] front) s.steps before.steps after.steps first n has.steps steps;
  improved = improves-then g.mesh point before.best s.best after.best has.improved improved;
  looked = λ u m inside low high at. elim (cases_lt m n) [
    | inl earlier ↦ improved.kept u (has.looked u m inside low earlier at)
    | inr here ↦ let same : m ≡ n = omega arith in looked u inside (at ∙ ap (λ (k : ℕ). front * g.cells.per_axis + k) same)
  ];
}

-- the part of a box round an inner one, up to the number n of the first axis, which is one of the inner box
pub record HasLookedUpto (g : GriddedMesh) (point : List ℤ) (o i : Span) (within known : List Span) (front n : ℕ) (old new : Search) : Type 0 where
  pub steps : new.steps + total (branch_sum (cost_in g) g.cells.per_axis within front) o.first + total (branch_sum (cost_in g) g.cells.per_axis known front) n
      ≡ old.steps + total (branch_sum (cost_in g) g.cells.per_axis within front) n + total (branch_sum (cost_in g) g.cells.per_axis known front) i.first
  pub improved : Improves g.mesh point old.best new.best
  pub looked : (u m : ℕ) → u < length g.mesh → o.first ≤ m → m < n → IsInBox g.cells.per_axis within (front * g.cells.per_axis + m) (place_of g u)
      → (i.first ≤ m → IsInBox g.cells.per_axis known (front * g.cells.per_axis + m) (place_of g u) → GoesBefore g.mesh point old.best u)
      → GoesBefore g.mesh point new.best u

-- a box inside another costs no more
between_le : (f k : ℕ → ℕ) (first last : ℕ) → first ≤ last → ((n : ℕ) → f n ≤ k n) → total f last + total k first ≤ total k last + total f first
between_le f k first last ordered less = total-steps f (total k) first last ordered (λ n low high. omega (arith, less n, total-more k n))

inner_le : (f k : ℕ → ℕ) (o_first i_first i_last o_last : ℕ) → o_first ≤ i_first → i_first ≤ i_last → i_last ≤ o_last → ((n : ℕ) → f n ≤ k n)
    → total f i_last - total f i_first ≤ total k o_last - total k o_first
inner_le f k o_first i_first i_last o_last a b d less =
    omega (arith, between_le f k i_first i_last b less, total-le k o_first i_first a, total-le k i_last o_last d, total-le f i_first i_last b)

nested_cost : (w : ℕ → ℕ) (c : ℕ) (outer inner : List Span) (front : ℕ) → AreNested c outer inner → box_sum w c inner front ≤ box_sum w c outer front
nested_cost w c [] [] front nested = omega arith
nested_cost w c [] (i ∷ inner) front nested = absurd nested
nested_cost w c (o ∷ outer) [] front nested = absurd nested
nested_cost w c (o ∷ outer) (i ∷ inner) front nested =
    inner_le (λ n. box_sum w c inner (front * c + n)) (λ n. box_sum w c outer (front * c + n)) o.first i.first i.end o.end nested.0 nested.1 nested.2
    (λ n. nested_cost w c outer inner (front * c + n) nested.4)

-- sums of steps round an inner part: k is the cost outside, f that inside
room_below : (f k : ℕ → ℕ) (s o_first i_first i_last o_last limit : ℕ) → o_first ≤ i_first → i_first ≤ i_last → i_last ≤ o_last → ((n : ℕ) → f n ≤ k n)
    → s + (total k o_last - total k o_first) < limit + (total f i_last - total f i_first) → s + total k i_first < limit + total k o_first
room_below f k s o_first i_first i_last o_last limit a b d less room =
    omega (arith, room, between_le f k i_first i_last b less, total-le k o_first i_first a, total-le k i_first i_last b, total-le k i_last o_last d, total-le f i_first i_last b)

room_round : (f k : ℕ → ℕ) (s before o_first i_first n i_last o_last limit : ℕ) → o_first ≤ i_first → i_first ≤ n → n < i_last → i_last ≤ o_last → ((m : ℕ) → f m ≤ k m)
    → before + (total k o_last - total k o_first) < limit + (total f i_last - total f i_first)
    → s + total k o_first + total f n ≡ before + total k n + total f i_first → s + k n < limit + f n
room_round f k s before o_first i_first n i_last o_last limit a b e d less room steps =
    omega (arith, room, steps, total-more k n, total-more f n, between_le f k (n + 1) i_last (omega arith) less, total-le k o_first n (omega arith), total-le k i_last o_last d, total-le k (n + 1) i_last (omega arith), total-le f i_first n b, total-le f (n + 1) i_last (omega arith))

room_above : (f k : ℕ → ℕ) (s before o_first i_first i_last o_last limit : ℕ) → o_first ≤ i_first → i_first ≤ i_last → i_last ≤ o_last
    → before + (total k o_last - total k o_first) < limit + (total f i_last - total f i_first)
    → s + total k o_first + total f i_last ≡ before + total k i_last + total f i_first → s + total k o_last < limit + total k i_last
room_above f k s before o_first i_first i_last o_last limit a b d room steps =
    omega (arith, room, steps, total-le k o_first i_last (omega arith), total-le k i_last o_last d, total-le f i_first i_last b)

all_steps : (f k : ℕ → ℕ) (s before after o_first i_first i_last o_last : ℕ) → o_first ≤ i_first → i_first ≤ i_last → i_last ≤ o_last
    → s + total k o_first + total f i_last ≡ before + total k i_last + total f i_first → after + total k i_last ≡ s + total k o_last
    → after + (total f i_last - total f i_first) ≡ before + (total k o_last - total k o_first)
all_steps f k s before after o_first i_first i_last o_last a b d steps then =
    omega (arith, steps, then, total-le k o_first i_last (omega arith), total-le k i_last o_last d, total-le f i_first i_last b)

pub may_below : (count : ℕ) (g : GriddedMesh) (point : List ℤ) (o i : Span) (within known : List Span) (front : ℕ) (s : Search)
    → MayLookRound count g point (o ∷ within) (i ∷ known) front s → MayLook count g point within front o.first i.first s
may_below count g point o i within known front s may =
    let n = may.nested in
    record {
      ordered = n.0;
      numbers = omega (arith, n.1, n.2, n.3);
      cells = λ m cell low high at. may.cells cell (m, low, omega (arith, n.1, n.2, high), at);
      found = may.found;
      room = room_below (branch_sum (cost_in g) g.cells.per_axis known front) (branch_sum (cost_in g) g.cells.per_axis within front) s.steps o.first i.first i.end o.end (2 ^ 64)
          n.0 n.1 n.2 (λ m. nested_cost (cost_in g) g.cells.per_axis within known (front * g.cells.per_axis + m) n.4) may.room;
    }

pub upto_first : (g : GriddedMesh) (point : List ℤ) (o i : Span) (within known : List Span) (front : ℕ) (before s : Search)
    → HasLooked g point within front o.first i.first before s → HasLookedUpto g point o i within known front i.first before s
upto_first g point o i within known front before s has = record {
  steps = ap (λ (k : ℕ). k + total (branch_sum (cost_in g) g.cells.per_axis known front) i.first) has.steps;
  improved = has.improved;
  looked = λ u m inside low high at known_there. has.looked u m inside low high at;
}

pub may_round : (count : ℕ) (g : GriddedMesh) (point : List ℤ) (o i : Span) (within known : List Span) (front n : ℕ) (before s : Search)
    → MayLookRound count g point (o ∷ within) (i ∷ known) front before → i.first ≤ n → n < i.end → HasLookedUpto g point o i within known front n before s
    → MayLookRound count g point within known (front * g.cells.per_axis + n) s
may_round count g point o i within known front n before s may low below has =
    let e = may.nested in
    record {
      nested = e.4;
      cells = λ cell at. may.cells cell (n, omega (arith, e.0, low), omega (arith, e.2, below), at);
      found = has.improved.found;
      room = room_round (branch_sum (cost_in g) g.cells.per_axis known front) (branch_sum (cost_in g) g.cells.per_axis within front) s.steps before.steps o.first i.first n i.end o.end (2 ^ 64)
          e.0 low below e.2 (λ m. nested_cost (cost_in g) g.cells.per_axis within known (front * g.cells.per_axis + m) e.4) may.room has.steps;
    }

more_steps : (f k : ℕ → ℕ) (s before after o_first i_first n : ℕ) → s + total k o_first + total f n ≡ before + total k n + total f i_first → after + f n ≡ s + k n
    → after + total k o_first + total f (n + 1) ≡ before + total k (n + 1) + total f i_first
more_steps f k s before after o_first i_first n steps then = omega (arith, steps, then, total-more f n, total-more k n)

pub upto_more : (g : GriddedMesh) (point : List ℤ) (o i : Span) (within known : List Span) (front n : ℕ) (before s after : Search)
    → i.first ≤ n → HasLookedUpto g point o i within known front n before s → HasLookedRound g point within known (front * g.cells.per_axis + n) s after
    → HasLookedUpto g point o i within known front (n + 1) before after
upto_more g point o i within known front n before s after low has then = record {
  steps = more_steps (branch_sum (cost_in g) g.cells.per_axis known front) (branch_sum (cost_in g) g.cells.per_axis within front) s.steps before.steps after.steps o.first i.first n has.steps then.steps;
  improved = improves-then g.mesh point before.best s.best after.best has.improved then.improved;
  looked = λ u m inside from high at known_there. elim (cases_lt m n) [
    | inl earlier ↦ then.improved.kept u (has.looked u m inside from earlier at known_there)
    | inr here ↦
        let same : m ≡ n = omega arith in
        let place : ℕ → ℕ = λ k. front * g.cells.per_axis + k in
        then.looked u inside (subst (λ (k : ℕ). IsInBox g.cells.per_axis within (place k) (place_of g u)) same at)
        (λ at_n. has.improved.kept u (known_there (omega (arith, low)) (subst (λ (k : ℕ). IsInBox g.cells.per_axis known (place k) (place_of g u)) (sym same) at_n)))
  ];
}

-- in a row the inner cells are the known ones
row_steps : (f : ℕ → ℕ) (s before o_first i_first n : ℕ) → s + total f o_first + total f i_first ≡ before + total f i_first + total f i_first
    → s + total f o_first + total f n ≡ before + total f n + total f i_first
row_steps f s before o_first i_first n steps = omega (arith, steps)

pub upto_known : (g : GriddedMesh) (point : List ℤ) (o i : Span) (front : ℕ) (before s : Search)
    → HasLookedUpto g point o i [] [] front i.first before s → HasLookedUpto g point o i [] [] front i.end before s
upto_known g point o i front before s has = record {
  steps = row_steps (branch_sum (cost_in g) g.cells.per_axis [] front) s.steps before.steps o.first i.first i.end has.steps;
  improved = has.improved;
  looked = λ u m inside from high at known_there. elim (cases_lt m i.first) [
    | inl earlier ↦ has.looked u m inside from earlier at (λ low _. absurd (omega arith))
    | inr past ↦ has.improved.kept u (known_there past at)
  ];
}

pub may_above : (count : ℕ) (g : GriddedMesh) (point : List ℤ) (o i : Span) (within known : List Span) (front : ℕ) (before s : Search)
    → MayLookRound count g point (o ∷ within) (i ∷ known) front before → HasLookedUpto g point o i within known front i.end before s
    → MayLook count g point within front i.end o.end s
may_above count g point o i within known front before s may has =
    let n = may.nested in
    record {
      ordered = n.2;
      numbers = n.3;
      cells = λ m cell low high at. may.cells cell (m, omega (arith, n.0, n.1, low), high, at);
      found = has.improved.found;
      room = room_above (branch_sum (cost_in g) g.cells.per_axis known front) (branch_sum (cost_in g) g.cells.per_axis within front) s.steps before.steps o.first i.first i.end o.end (2 ^ 64)
          n.0 n.1 n.2 may.room has.steps;
    }

pub all_round : (count : ℕ) (g : GriddedMesh) (point : List ℤ) (o i : Span) (within known : List Span) (front : ℕ) (before s after : Search)
    → MayLookRound count g point (o ∷ within) (i ∷ known) front before → HasLookedUpto g point o i within known front i.end before s
    → HasLooked g point within front i.end o.end s after → HasLookedRound g point (o ∷ within) (i ∷ known) front before after
all_round count g point o i within known front before s after may has then =
    let n = may.nested in
    record {
      steps = all_steps (branch_sum (cost_in g) g.cells.per_axis known front) (branch_sum (cost_in g) g.cells.per_axis within front) s.steps before.steps after.steps o.first i.first i.end o.end
          n.0 n.1 n.2 has.steps then.steps;
      improved = improves-then g.mesh point before.best s.best after.best has.improved then.improved;
      looked = λ u inside at known_there. elim (cases_lt at.0 i.end) [
        | inl earlier ↦ then.improved.kept u (has.looked u at.0 inside at.1 earlier at.3 (λ low in_known. known_there (at.0, low, earlier, in_known)))
        | inr later ↦ then.looked u at.0 inside later at.2 at.3
      ];
    }
