-- What a search has found once it has looked through the box of a reach.
use Rattle.std.proofs.Common.{◌≡◌, false, ℕ, zero, suc, ◌+◌, ◌*◌, ◌^◌, ◌<◌, ◌≤◌, Option, None, Some, List, [], ℤ, pos, length, get_or, All, refl, subst, sym, ap, ◌∙◌, inl, inr, arith}
use Rattle.std.specs.Option.{IfSome, IfNone}
use Rattle.std.proofs.lemmas.Bool.{cases_lt, both_ways}
use Rattle.std.proofs.lemmas.List.{get_or-map, length-map}
use Rattle.std.proofs.lemmas.List.Elements.{All-get_or, All-from_get_or}
use Rattle.std.proofs.lemmas.Nat.{mul-le}
use Rattle.mesh_data.specs.Meshes.{IsMesh}
use Rattle.mesh_data.specs.Nearest.{IsNearest, distance_to}
use Rattle.mesh_data.specs.Points.{IsDimension, IsPoint}
use Rattle.grid_index.specs.Block.{least_width, block_of, is_in_block}
use Rattle.grid_index.specs.Boxes.{IsInBox, IsSpan, AreNested, box_sum, branch_sum, total, box_within, cell_cost}
use Rattle.grid_index.specs.Candidates.{IsFound, GoesBefore, IsWithinReach}
use Rattle.grid_index.specs.Cells.{Cells, AreCellsOf}
use Rattle.grid_index.specs.GriddedMesh.{GriddedMesh, IsGridded}
use Rattle.grid_index.specs.Places.{places_in, place_in, HasDigits}
use Rattle.grid_index.specs.declared.axis.Axis.{Axis}
use Rattle.grid_index.specs.declared.candidate.Candidate.{Candidate}
use Rattle.grid_index.specs.declared.spans.Span.{Span}
use Rattle.grid_index.proofs.Blocks.{length-box, place-IsInRow, in_block_from_box}
use Rattle.grid_index.proofs.Costs.{box_cost-le, near_cost-le}
use Rattle.grid_index.proofs.Ranks.{is_nearest, before_far, near_before}
use Rattle.grid_index.proofs.Reaches.{in_box_from_reach, box-spans, box-nested, square_distance-le}
use Rattle.grid_index.proofs.Vertices.{IsCut, cells_cut, least_width-le}

-- a grid and a point of one space
pub record IsSought (dimensions : ℕ) (g : GriddedMesh) (point : List ℤ) : Type 0 where
  pub dimension : IsDimension dimensions
  pub gridded : IsGridded dimensions g
  pub at : IsPoint dimensions point

abbrev pub box_at : GriddedMesh → (point : List ℤ) (reach : ℕ) → List Span
box_at g point reach = box_within g.cells.per_axis reach g.cells.axes point

abbrev pub cost_of : GriddedMesh → List Span → ℕ
cost_of g box = box_sum (cell_cost (places_in g.cells g.mesh)) g.cells.per_axis box 0

-- every vertex in a box goes behind the best
abbrev pub IsLookedThrough : GriddedMesh → (point : List ℤ) → List Span → Option Candidate → Type 0
IsLookedThrough g point box best =
    (u : ℕ) → u < length g.mesh → IsInBox g.cells.per_axis box 0 (get_or (places_in g.cells g.mesh) u 0) → GoesBefore g.mesh point best u

pub cut_of : (dimensions : ℕ) (g : GriddedMesh) → IsDimension dimensions → IsGridded dimensions g → IsCut dimensions g.mesh g.cells
cut_of dimensions g is grid = cells_cut dimensions g.mesh g.cells is grid.mesh grid.some grid.cells

alike : (dimensions : ℕ) (g : GriddedMesh) (point : List ℤ) → IsSought dimensions g point → length g.cells.axes ≡ length point
alike dimensions g point is =
    let cut = cut_of dimensions g is.dimension is.gridded in cut.one_for_each ∙ sym is.at.one_for_each

pub length-box_at : (dimensions : ℕ) (g : GriddedMesh) (point : List ℤ) (reach : ℕ) → IsSought dimensions g point → length (box_at g point reach) ≡ dimensions
length-box_at dimensions g point reach is =
    let cut = cut_of dimensions g is.dimension is.gridded in
    length-box g.cells.per_axis reach g.cells.axes point (alike dimensions g point is) ∙ cut.one_for_each

pub spans_at : (dimensions : ℕ) (g : GriddedMesh) (point : List ℤ) (reach : ℕ) → IsSought dimensions g point → All (IsSpan g.cells.per_axis) (box_at g point reach)
spans_at dimensions g point reach is =
    let cut = cut_of dimensions g is.dimension is.gridded in box-spans g.cells.per_axis reach g.cells.axes point cut.wide

pub nested_at : (dimensions : ℕ) (g : GriddedMesh) (point : List ℤ) (reach farther : ℕ) → IsSought dimensions g point → reach ≤ farther
    → AreNested g.cells.per_axis (box_at g point farther) (box_at g point reach)
nested_at dimensions g point reach farther is more =
    let cut = cut_of dimensions g is.dimension is.gridded in box-nested g.cells.per_axis reach farther g.cells.axes point cut.wide more

-- a vertex within reach is in the box
covers : (dimensions : ℕ) (g : GriddedMesh) (point : List ℤ) (reach u : ℕ) → IsSought dimensions g point → u < length g.mesh → distance_to g.mesh point u ≤ reach * reach
    → IsInBox g.cells.per_axis (box_at g point reach) 0 (get_or (places_in g.cells g.mesh) u 0)
covers dimensions g point reach u is inside near =
    let cut = cut_of dimensions g is.dimension is.gridded in
    subst (IsInBox g.cells.per_axis (box_at g point reach) 0) (sym (get_or-map (place_in g.cells) g.mesh u [] 0 inside))
    (in_box_from_reach g.cells.per_axis reach g.cells.axes point (get_or g.mesh u []) 0 (alike dimensions g point is)
    (All-get_or (HasDigits g.cells.per_axis g.cells.axes) g.mesh u [] inside cut.digits) near)

-- a best within reach goes before every vertex
pub done : (dimensions : ℕ) (g : GriddedMesh) (point : List ℤ) (reach : ℕ) (best : Option Candidate) → IsSought dimensions g point → IsFound g.mesh point best
    → IsLookedThrough g point (box_at g point reach) best → IsWithinReach best reach → (u : ℕ) → u < length g.mesh → GoesBefore g.mesh point best u
done dimensions g point reach None is found looked within u inside = absurd within
done dimensions g point reach (Some c) is found looked within u inside =
    let few = is.gridded.mesh.few in
    elim (cases_lt (reach * reach) (distance_to g.mesh point u)) [
      | inl far ↦ before_far g.mesh point c u (omega (arith, few, found.0)) (omega (arith, far, within))
      | inr near ↦ looked u inside (covers dimensions g point reach u is inside near)
    ]

-- no vertex is further away than this
far_at_most : (dimensions : ℕ) (g : GriddedMesh) (point : List ℤ) (u : ℕ) → IsSought dimensions g point → u < length g.mesh → distance_to g.mesh point u ≤ 16 * 10 ^ 24
far_at_most dimensions g point u is inside =
    let vertex = All-get_or (IsPoint dimensions) g.mesh u [] inside is.gridded.mesh.points in
    let all = square_distance-le point (get_or g.mesh u []) is.at.in_range vertex.in_range in
    omega (arith, all, is.at.one_for_each, is.dimension)

pub best_at_most : (dimensions : ℕ) (g : GriddedMesh) (point : List ℤ) (best : Option Candidate) → IsSought dimensions g point → IsFound g.mesh point best
    → IfSome best (λ c. c.distance ≤ 16 * 10 ^ 24)
best_at_most dimensions g point None is found = tt
best_at_most dimensions g point (Some c) is found = omega (arith, found.1, far_at_most dimensions g point c.vertex is found.0)

-- beyond this reach something is found
pub reach_at_most : (dimensions : ℕ) (g : GriddedMesh) (point : List ℤ) (reach : ℕ) (best : Option Candidate) → IsSought dimensions g point
    → IsLookedThrough g point (box_at g point reach) best → IfNone best (reach ≤ 4 * 10 ^ 12)
reach_at_most dimensions g point reach (Some c) is looked = tt
reach_at_most dimensions g point reach None is looked =
    elim (cases_lt (4 * 10 ^ 12) reach) [
      | inr small ↦ small
      | inl past ↦
          let square : (4 * 10 ^ 12) * (4 * 10 ^ 12) ≤ reach * reach = mul-le (4 * 10 ^ 12) (4 * 10 ^ 12) reach reach (omega arith) (omega arith) in
          absurd (looked 0 is.gridded.some (covers dimensions g point reach 0 is is.gridded.some (omega (arith, square, far_at_most dimensions g point 0 is is.gridded.some))))
    ]

-- while a vertex is within the least width and the best is not within reach, the reach is less than that width
pub still_near : (dimensions : ℕ) (g : GriddedMesh) (point : List ℤ) (reach h u : ℕ) (best : Option Candidate) → IsSought dimensions g point
    → IsLookedThrough g point (box_at g point reach) best → (IsWithinReach best reach → ⊥) → u < length g.mesh → distance_to g.mesh point u ≤ h * h → reach ≤ h
    → reach < h
still_near dimensions g point reach h u None is looked unfinished inside near small =
    elim (cases_lt reach h) [
      | inl less ↦ less
      | inr more ↦
          let same : reach ≡ h = omega arith in
          absurd (looked u inside (covers dimensions g point reach u is inside (rw same near)))
    ]
still_near dimensions g point reach h u (Some c) is looked unfinished inside near small =
    elim (cases_lt reach h) [
      | inl less ↦ less
      | inr more ↦
          let same : reach ≡ h = omega arith in
          let at : distance_to g.mesh point u ≤ reach * reach = rw same near in
          let few = is.gridded.mesh.few in
          absurd (unfinished (omega (arith, at, near_before g.mesh point c u (omega (arith, few)) (looked u inside (covers dimensions g point reach u is inside at)))))
    ]

-- what it costs at most
pub cost-le : (dimensions : ℕ) (g : GriddedMesh) (point : List ℤ) (reach : ℕ) → IsSought dimensions g point → cost_of g (box_at g point reach) ≤ 2 * length g.mesh
cost-le dimensions g point reach is =
    let cut = cut_of dimensions g is.dimension is.gridded in
    let same = ap (λ (k : ℕ). g.cells.per_axis ^ k) (length-box_at dimensions g point reach is) in
    omega (arith, same, cut.few, box_cost-le g.cells g.mesh (box_at g point reach) (spans_at dimensions g point reach is) cut.digits)

pub near_cost : (dimensions : ℕ) (g : GriddedMesh) (point : List ℤ) (reach : ℕ) → IsSought dimensions g point → reach ≤ least_width g.cells.axes
    → cost_of g (box_at g point reach) ≤ 3 ^ dimensions + length (block_of g.cells g.mesh point)
near_cost dimensions g point reach is small =
    let cut = cut_of dimensions g is.dimension is.gridded in
    let none : Axis = record { least = pos 0; width = 0 } in
    let wide = All-from_get_or (λ (axis : Axis). reach ≤ axis.width) g.cells.axes none
    (λ i inside. omega (arith, small, All-get_or (λ (axis : Axis). least_width g.cells.axes ≤ axis.width) g.cells.axes i none inside (least_width-le g.cells.axes))) in
    let same = ap (λ (k : ℕ). 3 ^ k) cut.one_for_each in
    omega (arith, same, near_cost-le g.cells g.mesh point reach (alike dimensions g point is) cut.wide wide cut.digits)

-- looking through a whole box begins with no digit
pub root_cost : (w : ℕ → ℕ) (c : ℕ) (box : List Span) → total (branch_sum w c box 0) 1 ≡ box_sum w c box 0
root_cost w c box =
    let root : 0 * c + 0 ≡ 0 = omega arith in
    let front = ap (box_sum w c box) root in omega (arith, front)

pub root_in : (c : ℕ) (box : List Span) (cell : ℕ) → IsInBox c box 0 cell → IsInBox c box (0 * c + 0) cell
root_in c box cell inside = let root : 0 ≡ 0 * c + 0 = omega arith in subst (λ (front : ℕ). IsInBox c box front cell) root inside

-- the cell numbers of a vertex as it is read
pub vertex_digits : (dimensions : ℕ) (mesh : List (List ℤ)) (cells : Cells) (v : ℕ) (at : List ℤ) → IsDimension dimensions → IsMesh dimensions mesh → v < length mesh
    → AreCellsOf dimensions mesh cells → at ≡ get_or mesh v [] → HasDigits cells.per_axis cells.axes at
vertex_digits dimensions mesh cells v at dimension is inside are same =
    let cut = cells_cut dimensions mesh cells dimension is (omega (arith, inside)) are in
    subst (HasDigits cells.per_axis cells.axes) (sym same) (All-get_or (HasDigits cells.per_axis cells.axes) mesh v [] inside cut.digits)

pub place_below : (dimensions : ℕ) (mesh : List (List ℤ)) (cells : Cells) (v : ℕ) (at : List ℤ) → IsDimension dimensions → IsMesh dimensions mesh → v < length mesh
    → AreCellsOf dimensions mesh cells → at ≡ get_or mesh v [] → place_in cells at < cells.per_axis ^ dimensions
place_below dimensions mesh cells v at dimension is inside are same =
    let cut = cells_cut dimensions mesh cells dimension is (omega (arith, inside)) are in
    let row = place-IsInRow cells.per_axis cells.axes at 0 (vertex_digits dimensions mesh cells v at dimension is inside are same) in
    let power = ap (λ (k : ℕ). cells.per_axis ^ k) cut.one_for_each in
    omega (arith, row.high, power)

pub places_below : (dimensions : ℕ) (mesh : List (List ℤ)) (cells : Cells) → IsDimension dimensions → IsMesh dimensions mesh → AreCellsOf dimensions mesh cells
    → (v d : ℕ) → v < length (places_in cells mesh) → get_or (places_in cells mesh) v d < cells.per_axis ^ dimensions
places_below dimensions mesh cells dimension is are v d within =
    let inside : v < length mesh = omega (arith, length-map mesh (place_in cells), within) in
    let there : place_in cells (get_or mesh v []) ≡ get_or (places_in cells mesh) v d = sym (get_or-map (place_in cells) mesh v [] d inside) in
    let below = place_below dimensions mesh cells v (get_or mesh v []) dimension is inside are refl in
    omega (arith, there, below)

-- what is not in the block is further away than the least width
pub outside_far : (dimensions : ℕ) (g : GriddedMesh) (point : List ℤ) (v : ℕ) → IsDimension dimensions → IsGridded dimensions g → IsPoint dimensions point → v < length g.mesh
    → is_in_block g.cells.axes point (get_or g.mesh v []) ≡ false → least_width g.cells.axes * least_width g.cells.axes < distance_to g.mesh point v
outside_far dimensions g point v dimension grid at inside out =
    let c = g.cells.per_axis in
    let h = least_width g.cells.axes in
    let vertex = get_or g.mesh v [] in
    let cut = cut_of dimensions g dimension grid in
    let same_length = cut.one_for_each ∙ sym at.one_for_each in
    let digits = All-get_or (HasDigits c g.cells.axes) g.mesh v [] inside cut.digits in
    elim (cases_lt (h * h) (distance_to g.mesh point v)) [
      | inl far ↦ far
      | inr near ↦ absurd (both_ways (is_in_block g.cells.axes point vertex) out
          (in_block_from_box c h g.cells.axes point vertex 0 same_length (least_width-le g.cells.axes) (box-spans c h g.cells.axes point cut.wide) digits
          (in_box_from_reach c h g.cells.axes point vertex 0 same_length digits near)))
    ]
