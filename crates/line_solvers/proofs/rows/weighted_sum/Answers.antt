use Rattle.std.proofs.Common.{◌≡◌, ◌≤◌, ◌*◌, ◌^◌, ◌+ℤ◌, unsigned_abs, arith, refl, pos}
use mir.Syntax.{w128}
use mir.Val.{to_z, of_z, SFits}
use Rattle.std.proofs.lemmas.Int.{to_z-of_z}
use Rattle.line_solvers.specs.declared.case.Pair.{Pair}
use Rattle.line_solvers.specs.RowsStep.{weighted_sum}
use Rattle.line_solvers.proofs.WeightedSums.{weighted-le, weighted_sum-take-le, weighted_sum-take_more, sum_fits, small_fits}
use Rattle.line_solvers.proofs.rows.weighted_sum.Goals as goal

pub loop-pair-init : goal.loop-pair-init
unfolding weighted_sum
loop-pair-init c = refl

-- the term is small
term_bound : (c : goal.After-weighted-sum) → unsigned_abs c.weighted-sum.result ≤ 10 ^ 22
term_bound c =
    rw c.weighted-sum.ensures
    (weighted-le c.args.values.now _ (c.requires.pairs c.loop-pair.pair-index _ c.loop-pair-test.true) c.requires.values)

-- the sum so far is small
sum_bound : (c : goal.After-weighted-sum) → unsigned_abs (to_z w128 c.loop-pair.sum-bits) ≤ 64 * 10 ^ 22
sum_bound c =
    rw c.loop-pair.invariant
    (weighted_sum-take-le c.args.pairs.now c.args.values.now c.loop-pair.pair-index c.requires.few c.requires.pairs c.requires.values)

term_is : (c : goal.After-weighted-sum) → to_z w128 (of_z w128 c.weighted-sum.result) ≡ c.weighted-sum.result
term_is c = to_z-of_z w128 c.weighted-sum.result (small_fits c.weighted-sum.result (10 ^ 22) (term_bound c) (omega arith))

pub overflow_add-sum : goal.overflow_add-sum
overflow_add-sum c =
    rw (term_is c)
    (sum_fits (to_z w128 c.loop-pair.sum-bits) c.weighted-sum.result (64 * 10 ^ 22) (10 ^ 22) (sum_bound c) (term_bound c) (omega arith))

pub loop-pair-preserved : goal.loop-pair-preserved
loop-pair-preserved c =
    let sum = to_z w128 c.loop-pair.sum-bits in
    let fits : SFits w128 (sum +ℤ c.weighted-sum.result) =
    sum_fits (to_z w128 c.loop-pair.sum-bits) c.weighted-sum.result (64 * 10 ^ 22) (10 ^ 22) (sum_bound c) (term_bound c) (omega arith) in
    let pad : Pair = record { index = pos 0; number = pos 0 } in
    let more = weighted_sum-take_more c.args.pairs.now c.args.values.now c.loop-pair.pair-index pad c.loop-pair-test.true in
    rw (term_is c, to_z-of_z w128 (sum +ℤ c.weighted-sum.result) fits) (cc (more, c.loop-pair.invariant, c.weighted-sum.ensures))
