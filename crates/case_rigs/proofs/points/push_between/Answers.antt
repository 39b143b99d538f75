use Rattle.std.proofs.Common.{ℕ, ◌*◌, ◌<◌, ◌≤◌, List, ℤ, All, arith, lit<, subst, sym}
use Rattle.fixed_num.specs.Numbers.{IsCoordinate}
use Rattle.case_rigs.proofs.LineParts.{line_point-range}
use Rattle.case_rigs.proofs.points.push_between.Goals as goal

small : (dimensions : ℕ) → dimensions ≤ 3 → dimensions * 8 < 9223372036854775808
small dimensions few = omega (arith, few)

pub push-requires : goal.push-requires
push-requires g c =
    let range = line_point-range c.args.count c.args.vertex c.args.from.now c.args.to.now c.requires.vertex c.requires.from.in_range c.requires.to.in_range in
    let written : All IsCoordinate c.write_point.new.at = subst (λ (at : List ℤ). All IsCoordinate at) (sym c.write_point.ensures) range in
    (small _ c.requires.dimension.1, (lit< tt, (c.requires.dimension, record { in_range = written; room = c.requires.room })))
