use Rattle.std.proofs.Common.{◌≡◌, ◌+◌, ◌<◌, ℤ, pos, length, get_or, set, take, arith, sym, ap, ◌∙◌, [], ◌∷◌, ◌++◌}
use mir.Syntax.{w64}
use mir.Val.{to_z, of_z}
use Rattle.std.proofs.lemmas.Int.{to_z-of_z, fits_signed_from_abs}
use Rattle.std.proofs.lemmas.List.{take_all, take_more, take_more_set, length-set}
use Rattle.case_rigs.specs.Lines.{line_coordinate, line_point}
use Rattle.case_rigs.proofs.LineParts.{get_or-line_point, length-line_point}
use Rattle.case_rigs.proofs.lines.write_point.Goals as goal

in_from : (c : goal.After-coordinate) → c.loop-axis.axis < length c.args.from.now
in_from c = omega (arith, c.requires.from_length, c.loop-axis-test.true, c.loop-axis.auto.at)

in_to : (c : goal.After-coordinate) → c.loop-axis.axis < length c.args.to.now
in_to c = omega (arith, c.requires.to_length, c.loop-axis-test.true, c.loop-axis.auto.at)

point_long : (c : goal.After-coordinate) → length (line_point c.args.count c.args.vertex c.args.from.now c.args.to.now) ≡ length c.args.at.now
point_long c = length-line_point c.args.count c.args.vertex c.args.from.now c.args.to.now (length c.args.at.now) c.requires.from_length c.requires.to_length

back : (c : goal.After-coordinate) → to_z w64 (of_z w64 c.coordinate.result) ≡ c.coordinate.result
back c = to_z-of_z w64 c.coordinate.result (record { sfits = c.coordinate.type_inv })

-- the coordinate that is written
written : (c : goal.After-coordinate) → to_z w64 (of_z w64 c.coordinate.result) ≡ get_or (line_point c.args.count c.args.vertex c.args.from.now c.args.to.now) c.loop-axis.axis (pos 0)
written c =
    let from = get_or c.args.from.now c.loop-axis.axis (pos 0) in
    let to = get_or c.args.to.now c.loop-axis.axis (pos 0) in
    let first = to_z-of_z w64 from (fits_signed_from_abs w64 from (omega (arith, c.requires.from_range c.loop-axis.axis (pos 0) (in_from c)))) in
    let last = to_z-of_z w64 to (fits_signed_from_abs w64 to (omega (arith, c.requires.to_range c.loop-axis.axis (pos 0) (in_to c)))) in
    let told : c.coordinate.result ≡ line_coordinate c.args.count c.args.vertex from to =
    c.coordinate.ensures
    ∙ ap (λ (n : ℤ). line_coordinate c.args.count c.args.vertex n (to_z w64 (of_z w64 to))) first
    ∙ ap (λ (n : ℤ). line_coordinate c.args.count c.args.vertex from n) last in
    back c ∙ told ∙ sym (get_or-line_point c.args.count c.args.vertex c.args.from.now c.args.to.now c.loop-axis.axis (pos 0) (in_from c) (in_to c))

set_more : (c : goal.After-coordinate) → take (c.loop-axis.axis + 1) (set c.loop-axis.at c.loop-axis.axis (to_z w64 (of_z w64 c.coordinate.result))) ≡ take c.loop-axis.axis c.loop-axis.at ++ to_z w64 (of_z w64 c.coordinate.result) ∷ []
set_more c = take_more_set c.loop-axis.at c.loop-axis.axis (to_z w64 (of_z w64 c.coordinate.result)) (omega (arith, c.loop-axis-test.true, c.loop-axis.auto.at))

point_more : (c : goal.After-coordinate) → take (c.loop-axis.axis + 1) (line_point c.args.count c.args.vertex c.args.from.now c.args.to.now)
    ≡ take c.loop-axis.axis (line_point c.args.count c.args.vertex c.args.from.now c.args.to.now)
    ++ get_or (line_point c.args.count c.args.vertex c.args.from.now c.args.to.now) c.loop-axis.axis (pos 0) ∷ []
point_more c =
    take_more (line_point c.args.count c.args.vertex c.args.from.now c.args.to.now) c.loop-axis.axis (pos 0)
    (omega (arith, point_long c, c.loop-axis-test.true, c.loop-axis.auto.at))

pub loop-axis-preserved : goal.loop-axis-preserved
loop-axis-preserved c = (
  length-set c.loop-axis.at c.loop-axis.axis (to_z w64 (of_z w64 c.coordinate.result)) ∙ c.loop-axis.invariant.0,
  cc (set_more c, point_more c, written c, c.loop-axis.invariant.1),
)

pub returns : goal.returns
returns c =
    let point = line_point c.args.count c.args.vertex c.args.from.now c.args.to.now in
    let long : length point ≡ length c.args.at.now = length-line_point c.args.count c.args.vertex c.args.from.now c.args.to.now (length c.args.at.now) c.requires.from_length c.requires.to_length in
    sym (take_all c.loop-axis.axis c.loop-axis.at (omega (arith, c.loop-axis-test.false, c.loop-axis.invariant.0)))
    ∙ c.loop-axis.invariant.1
    ∙ take_all c.loop-axis.axis point (omega (arith, long, c.loop-axis-test.false, c.loop-axis.invariant.0))
