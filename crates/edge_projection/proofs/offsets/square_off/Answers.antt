use Rattle.std.proofs.Common.{◌≡◌, ℕ, ◌<◌, ℤ, All, List, length, get_or, pos, sum_by, arith, ap, ◌∙◌}
use mir.Syntax.{w64}
use mir.Val.{to_z, of_z}
use Rattle.std.specs.List.{range_with_len}
use Rattle.std.proofs.lemmas.Int.{to_z-of_z, fits_signed_from_abs}
use Rattle.fixed_num.specs.Numbers.{IsCoordinate}
use Rattle.fixed_num.specs.Norm.{square}
use Rattle.edge_projection.specs.Offsets.{offset, coordinate, square_off}
use Rattle.edge_projection.proofs.Totals.{sum_by-range_more}
use Rattle.edge_projection.proofs.offsets.square_off.Goals as goal

-- a coordinate as it is read
back : (point : List ℤ) (i : ℕ) → All IsCoordinate point → i < length point → to_z w64 (of_z w64 (get_or point i (pos 0))) ≡ coordinate point i
back point i range inside =
    let small = range i (pos 0) inside in
    to_z-of_z w64 (get_or point i (pos 0)) (fits_signed_from_abs w64 (get_or point i (pos 0)) (omega (arith, small)))

-- the square of this coordinate
here : (c : goal.After-square-sum) → c.square-sum.result ≡ square (offset c.args.weight (coordinate c.args.p.now c.loop-i.i) (coordinate c.args.a.now c.loop-i.i) (coordinate c.args.b.now c.loop-i.i))
here c =
    let p = back c.args.p.now c.loop-i.i c.requires.point_range c.loop-i-test.true in
    let a = back c.args.a.now c.loop-i.i c.requires.start_range (omega (arith, c.loop-i-test.true, c.requires.start)) in
    let b = back c.args.b.now c.loop-i.i c.requires.end_range (omega (arith, c.loop-i-test.true, c.requires.end)) in
    let off = to_z-of_z w64 c.offset.result (record { sfits = c.offset.type_inv }) in
    c.square-sum.ensures.value ∙ ap square (off ∙ c.offset.ensures.value)
    ∙ ap (λ (x : ℤ). square (offset c.args.weight x (to_z w64 (of_z w64 (get_or c.args.a.now c.loop-i.i (pos 0)))) (to_z w64 (of_z w64 (get_or c.args.b.now c.loop-i.i (pos 0)))))) p
    ∙ ap (λ (x : ℤ). square (offset c.args.weight (coordinate c.args.p.now c.loop-i.i) x (to_z w64 (of_z w64 (get_or c.args.b.now c.loop-i.i (pos 0)))))) a
    ∙ ap (λ (x : ℤ). square (offset c.args.weight (coordinate c.args.p.now c.loop-i.i) (coordinate c.args.a.now c.loop-i.i) x)) b

pub loop-i-preserved : goal.loop-i-preserved
loop-i-preserved c =
    let more = sum_by-range_more (λ i. square (offset c.args.weight (coordinate c.args.p.now i) (coordinate c.args.a.now i) (coordinate c.args.b.now i))) c.loop-i.i in
    record { sum = omega (arith, more, c.loop-i.invariant.sum, here c); bound = omega (arith, c.loop-i.invariant.bound, c.square-sum.ensures.bound) }

pub returns-clause-value : goal.returns-clause-value
unfolding square_off
returns-clause-value c =
    let whole : c.loop-i.i ≡ length c.args.p.now = omega (arith, c.loop-i-test.false, c.loop-i.auto.i-end) in
    c.loop-i.invariant.sum
    ∙ ap (λ (n : ℕ). sum_by (λ i. square (offset c.args.weight (coordinate c.args.p.now i) (coordinate c.args.a.now i) (coordinate c.args.b.now i))) (range_with_len 0 n)) whole
