use Rattle.std.proofs.Common.{◌≡◌, ◌+◌, ◌/◌, ◌<◌, ◌≤◌, ◌^◌, [], ℤ, List, ℕ, pos, ◌-ℤ◌, unsigned_abs, get_or, fold, take, length, sym, ap, ◌∙◌, to_z, of_z, w64, rules, arith}
use Rattle.std.specs.Int.{int_min, int_max}
use Rattle.std.proofs.lemmas.Int.{ints, to_z-of_z, fits_signed_from_abs}
use Rattle.std.proofs.lemmas.List.{take_all, length-map}
use Rattle.std.proofs.lemmas.List.Elements.{All-get_or}
use Rattle.std.proofs.lemmas.Option.{slice_get-get_or}
use Rattle.fixed_num.specs.Numbers.{IsCoordinate}
use Rattle.grid_index.specs.Cells.{coordinate, coordinates, least_on, greatest_on}
use Rattle.grid_index.proofs.Vertices.{fold_next, axis_on-IsAxis}
use Rattle.grid_index.proofs.axis.axis_on.Goals as goal

pub loop-v-preserved : goal.loop-v-preserved
loop-v-preserved g c =
    let mesh = c.args.mesh.now in
    let i = c.args.i in
    let inside : c.loop-v.v < length c.args.mesh.now = omega (arith, c.len-v-end.ensures.count) in
    let first = coordinate (get_or mesh 0 []) i in
    let low = fold_next int_min first mesh i c.loop-v.v inside in
    let high = fold_next int_max first mesh i c.loop-v.v inside in
    let there = slice_get-get_or c.args.mesh.now c.loop-v.v [] inside in
    let read = c.point-in-loop-v.ensures in
    let vertex : c.point-in-loop-v.result.now ≡ get_or c.args.mesh.now c.loop-v.v [] = cc in
    let at = c.at-in-loop-v.ensures.coordinates ∙ vertex in
    let z = get_or c.at-in-loop-v.result.now c.args.i (pos 0) in
    let same : get_or c.at-in-loop-v.result.now c.args.i (pos 0) ≡ coordinate (get_or c.args.mesh.now c.loop-v.v []) c.args.i = ap (λ (l : List ℤ). get_or l c.args.i (pos 0)) at in
    let is_point = c.at-in-loop-v.ensures.point in
    let in_range : IsCoordinate (get_or c.point-in-loop-v.result.now c.args.i (pos 0)) = All-get_or IsCoordinate c.point-in-loop-v.result.now c.args.i (pos 0) (omega (arith, is_point.one_for_each)) is_point.in_range in
    let as_read = ap (λ (l : List ℤ). get_or l c.args.i (pos 0)) c.at-in-loop-v.ensures.coordinates in
    let small : unsigned_abs (get_or c.at-in-loop-v.result.now c.args.i (pos 0)) < 2 ^ 63 = rw as_read (omega (arith, in_range)) in
    let x = to_z-of_z w64 (get_or c.at-in-loop-v.result.now c.args.i (pos 0)) (fits_signed_from_abs w64 (get_or c.at-in-loop-v.result.now c.args.i (pos 0)) small) ∙ same in
    record {
      least =
          to_z-of_z w64 c.min-least.result (record { sfits = c.min-least.type_inv })
          ∙ c.min-least.ensures.value
          ∙ ap (λ (m : ℤ). int_min m (to_z w64 (of_z w64 (get_or c.at-in-loop-v.result.now c.args.i (pos 0))))) c.loop-v.invariant.least
          ∙ ap (int_min (fold int_min (coordinate (get_or c.args.mesh.now 0 []) c.args.i) (take c.loop-v.v (coordinates c.args.mesh.now c.args.i)))) x
          ∙ sym low;
      greatest =
          to_z-of_z w64 c.max-greatest.result (record { sfits = c.max-greatest.type_inv })
          ∙ c.max-greatest.ensures.value
          ∙ ap (λ (m : ℤ). int_max m (to_z w64 (of_z w64 (get_or c.at-in-loop-v.result.now c.args.i (pos 0))))) c.loop-v.invariant.greatest
          ∙ ap (int_max (fold int_max (coordinate (get_or c.args.mesh.now 0 []) c.args.i) (take c.loop-v.v (coordinates c.args.mesh.now c.args.i)))) x
          ∙ sym high;
    }

pub overflow_add-result : goal.overflow_add-result
overflow_add-result g c =
    let mesh = c.args.mesh.now in
    let i = c.args.i in
    let first = coordinate (get_or mesh 0 []) i in
    let all = take_all c.loop-v.v (coordinates mesh i) (omega (arith, length-map mesh (λ (vertex : List ℤ). coordinate vertex i), c.len-v-end.ensures.count)) in
    let low = c.loop-v.invariant.least ∙ ap (fold int_min first) all in
    let high = c.loop-v.invariant.greatest ∙ ap (fold int_max first) all in
    let extent : c.abs_diff.result ≡ unsigned_abs (greatest_on mesh i -ℤ least_on mesh i) =
    c.abs_diff.ensures
    ∙ ap (λ (z : ℤ). unsigned_abs (z -ℤ to_z w64 c.loop-v.least-bits)) high
    ∙ ap (λ (z : ℤ). unsigned_abs (greatest_on mesh i -ℤ z)) low in
    let is = axis_on-IsAxis g.row.D mesh c.args.per_axis i c.len-v-end.ensures.mesh c.requires.some c.requires.axis c.requires.cells in
    omega (arith, ap (λ (d : ℕ). d / c.args.per_axis + 1) extent, is.narrow)
