-- A search from one region to the next.
use Rattle.std.proofs.Common.{◌≡◌, ℕ, zero, suc, ◌+◌, ◌-◌, ◌*◌, ◌^◌, ◌<◌, ◌≤◌, Option, None, Some, List, [], ◌∷◌, ℤ, length, get_or, All, refl, subst, sym, ap, ◌∙◌, arith}
use Rattle.grid_index.specs.Boxes.{IsInBox, IsSpan, AreNested, box_sum, branch_sum, total, padded}
use Rattle.grid_index.specs.Candidates.{IsFound, GoesBefore}
use Rattle.grid_index.specs.GriddedMesh.{GriddedMesh}
use Rattle.grid_index.specs.Looking.{MayLook, HasLooked, MayLookRound, HasLookedRound, cost_in, place_of}
use Rattle.grid_index.specs.declared.candidate.Search.{Search}
use Rattle.grid_index.specs.declared.spans.Region.{Region}
use Rattle.grid_index.specs.declared.spans.Span.{Span}
use Rattle.grid_index.proofs.Blocks.{box-IsInRow}
use Rattle.grid_index.proofs.Padding.{padded-spans, padded-nested, padded-sum, in_padded, from_padded, one_number}
use Rattle.grid_index.proofs.Searches.{IsSought, box_at, cost_of, IsLookedThrough, cut_of, length-box_at, spans_at, nested_at, cost-le}
use Rattle.grid_index.proofs.Totals.{total-le}

abbrev pub spans_of : Region → List Span
spans_of r = r.planes ∷ r.rows ∷ r.row ∷ []

-- a region is the box of a reach
pub record IsRegion (dimensions : ℕ) (g : GriddedMesh) (point : List ℤ) (reach : ℕ) (r : Region) : Type 0 where
  pub spans : spans_of r ≡ padded (3 - dimensions) (box_at g point reach)

pub region-spans : (dimensions : ℕ) (g : GriddedMesh) (point : List ℤ) (reach : ℕ) (r : Region) → IsSought dimensions g point → IsRegion dimensions g point reach r
    → All (IsSpan g.cells.per_axis) (spans_of r)
region-spans dimensions g point reach r is region =
    let cut = cut_of dimensions g is.dimension is.gridded in
    subst (All (IsSpan g.cells.per_axis)) (sym region.spans) (padded-spans g.cells.per_axis (3 - dimensions) (box_at g point reach) cut.some (spans_at dimensions g point reach is))

region-cost : (dimensions : ℕ) (g : GriddedMesh) (point : List ℤ) (reach : ℕ) (r : Region) → IsRegion dimensions g point reach r
    → box_sum (cost_in g) g.cells.per_axis (spans_of r) 0 ≡ cost_of g (box_at g point reach)
region-cost dimensions g point reach r region =
    ap (λ (l : List Span). box_sum (cost_in g) g.cells.per_axis l 0) region.spans ∙ padded-sum (cost_in g) g.cells.per_axis (3 - dimensions) (box_at g point reach)

in_region : (dimensions : ℕ) (g : GriddedMesh) (point : List ℤ) (reach cell : ℕ) (r : Region) → IsRegion dimensions g point reach r
    → IsInBox g.cells.per_axis (box_at g point reach) 0 cell → IsInBox g.cells.per_axis (spans_of r) 0 cell
in_region dimensions g point reach cell r region inside =
    subst (λ (l : List Span). IsInBox g.cells.per_axis l 0 cell) (sym region.spans) (in_padded g.cells.per_axis (3 - dimensions) (box_at g point reach) cell inside)

from_region : (dimensions : ℕ) (g : GriddedMesh) (point : List ℤ) (reach cell : ℕ) (r : Region) → IsRegion dimensions g point reach r
    → IsInBox g.cells.per_axis (spans_of r) 0 cell → IsInBox g.cells.per_axis (box_at g point reach) 0 cell
from_region dimensions g point reach cell r region inside =
    from_padded g.cells.per_axis (3 - dimensions) (box_at g point reach) cell (subst (λ (l : List Span). IsInBox g.cells.per_axis l 0 cell) region.spans inside)

region-cells : (dimensions : ℕ) (g : GriddedMesh) (point : List ℤ) (reach cell : ℕ) (r : Region) → IsSought dimensions g point → IsRegion dimensions g point reach r
    → IsInBox g.cells.per_axis (spans_of r) 0 cell → cell < g.cells.per_axis ^ dimensions
region-cells dimensions g point reach cell r is region inside =
    let row = box-IsInRow g.cells.per_axis (box_at g point reach) 0 cell (spans_at dimensions g point reach is) (from_region dimensions g point reach cell r region inside) in
    let power = ap (λ (k : ℕ). g.cells.per_axis ^ k) (length-box_at dimensions g point reach is) in
    omega (arith, row.high, power)

-- over any costs
room_first : (f : ℕ → ℕ) (steps first last cost most limit : ℕ) → first ≤ last → total f last - total f first ≡ cost → cost ≤ most → steps + most < limit
    → steps + total f last < limit + total f first
room_first f steps first last cost most limit ordered is less room = omega (arith, is, less, room, total-le f first last ordered)

steps_first : (f : ℕ → ℕ) (before after first last cost : ℕ) → first ≤ last → total f last - total f first ≡ cost → after + total f first ≡ before + total f last
    → after ≡ before + cost
steps_first f before after first last cost ordered is steps = omega (arith, is, steps, total-le f first last ordered)

room_next : (steps before a b cost_a cost_b most : ℕ) → a ≡ cost_a → b ≡ cost_b → steps ≡ before + cost_b → cost_a ≤ most → before + most < 2 ^ 64 → steps + a < 2 ^ 64 + b
room_next steps before a b cost_a cost_b most is_a is_b is less room = omega (arith, is_a, is_b, is, less, room)

steps_next : (steps before after a b cost_a cost_b : ℕ) → a ≡ cost_a → b ≡ cost_b → steps ≡ before + cost_b → after + b ≡ steps + a → after ≡ before + cost_a
steps_next steps before after a b cost_a cost_b is_a is_b is then = omega (arith, is_a, is_b, is, then)

pub may_first : (dimensions : ℕ) (g : GriddedMesh) (point : List ℤ) (reach : ℕ) (r : Region) (s : Search) → IsSought dimensions g point → IsRegion dimensions g point reach r
    → IsFound g.mesh point s.best → s.steps + 2 * length g.mesh < 2 ^ 64
    → MayLook (g.cells.per_axis ^ dimensions) g point (r.rows ∷ r.row ∷ []) 0 r.planes.first r.planes.end s
may_first dimensions g point reach r s is region found room =
    let planes = region-spans dimensions g point reach r is region 0 one_number (omega arith) in
    record {
      ordered = planes.ordered;
      numbers = planes.within;
      cells = λ n cell low high at. region-cells dimensions g point reach cell r is region (n, low, high, at);
      found = found;
      room = room_first (branch_sum (cost_in g) g.cells.per_axis (r.rows ∷ r.row ∷ []) 0) s.steps r.planes.first r.planes.end (cost_of g (box_at g point reach)) (2 * length g.mesh) (2 ^ 64)
          planes.ordered (region-cost dimensions g point reach r region) (cost-le dimensions g point reach is) room;
    }

-- the box of a reach is looked through, at its cost
pub record HasSearched (g : GriddedMesh) (point : List ℤ) (reach before : ℕ) (s : Search) : Type 0 where
  pub found : IsFound g.mesh point s.best
  pub looked : IsLookedThrough g point (box_at g point reach) s.best
  pub cost : s.steps ≡ before + cost_of g (box_at g point reach)

pub searched_first : (dimensions : ℕ) (g : GriddedMesh) (point : List ℤ) (reach : ℕ) (r : Region) (s after : Search) → IsSought dimensions g point → IsRegion dimensions g point reach r
    → HasLooked g point (r.rows ∷ r.row ∷ []) 0 r.planes.first r.planes.end s after → HasSearched g point reach s.steps after
searched_first dimensions g point reach r s after is region has =
    let planes = region-spans dimensions g point reach r is region 0 one_number (omega arith) in
    record {
      found = has.improved.found;
      looked = λ u inside at.
          let there = in_region dimensions g point reach (place_of g u) r region at in
          has.looked u there.0 inside there.1 there.2 there.3;
      cost = steps_first (branch_sum (cost_in g) g.cells.per_axis (r.rows ∷ r.row ∷ []) 0) s.steps after.steps r.planes.first r.planes.end (cost_of g (box_at g point reach))
          planes.ordered (region-cost dimensions g point reach r region) has.steps;
    }

pub may_next : (dimensions : ℕ) (g : GriddedMesh) (point : List ℤ) (reach farther before : ℕ) (known r : Region) (s : Search) → IsSought dimensions g point
    → IsRegion dimensions g point reach known → IsRegion dimensions g point farther r → reach ≤ farther → HasSearched g point reach before s → before + 2 * length g.mesh < 2 ^ 64
    → MayLookRound (g.cells.per_axis ^ dimensions) g point (spans_of r) (spans_of known) 0 s
may_next dimensions g point reach farther before known r s is inner outer more has room =
    let cut = cut_of dimensions g is.dimension is.gridded in
    let c = g.cells.per_axis in
    let nested = padded-nested c (3 - dimensions) (box_at g point farther) (box_at g point reach) cut.some (nested_at dimensions g point reach farther is more) in
    record {
      nested = subst (λ (l : List Span). AreNested c l (spans_of known)) (sym outer.spans)
          (subst (λ (l : List Span). AreNested c (padded (3 - dimensions) (box_at g point farther)) l) (sym inner.spans) nested);
      cells = λ cell at. region-cells dimensions g point farther cell r is outer at;
      found = has.found;
      room =
          let a : box_sum (cost_in g) c (spans_of r) 0 ≡ cost_of g (box_at g point farther) = region-cost dimensions g point farther r outer in
          let b : box_sum (cost_in g) c (spans_of known) 0 ≡ cost_of g (box_at g point reach) = region-cost dimensions g point reach known inner in
          room_next s.steps before (box_sum (cost_in g) c (spans_of r) 0) (box_sum (cost_in g) c (spans_of known) 0) (cost_of g (box_at g point farther)) (cost_of g (box_at g point reach)) (2 * length g.mesh)
          a b has.cost (cost-le dimensions g point farther is) room;
    }

pub searched_next : (dimensions : ℕ) (g : GriddedMesh) (point : List ℤ) (reach farther before : ℕ) (known r : Region) (s after : Search) → IsSought dimensions g point
    → IsRegion dimensions g point reach known → IsRegion dimensions g point farther r → HasSearched g point reach before s
    → HasLookedRound g point (spans_of r) (spans_of known) 0 s after → HasSearched g point farther before after
searched_next dimensions g point reach farther before known r s after is inner outer has round = record {
  found = round.improved.found;
  looked = λ u inside at. round.looked u inside (in_region dimensions g point farther (place_of g u) r outer at)
      (λ at_known. has.looked u inside (from_region dimensions g point reach (place_of g u) known inner at_known));
  cost = steps_next s.steps before after.steps (box_sum (cost_in g) g.cells.per_axis (spans_of r) 0) (box_sum (cost_in g) g.cells.per_axis (spans_of known) 0) (cost_of g (box_at g point farther)) (cost_of g (box_at g point reach))
      (region-cost dimensions g point farther r outer) (region-cost dimensions g point reach known inner) has.cost round.steps;
}
