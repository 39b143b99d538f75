use Rattle.std.proofs.Common.{◌≡◌, ◌≤◌, ◌*◌, ◌^◌, ◌+ℤ◌, unsigned_abs, arith}
use mir.Syntax.{w128}
use mir.Val.{to_z, of_z, SFits}
use Rattle.std.proofs.lemmas.Int.{to_z-of_z}
use Rattle.line_solvers.specs.RowsStep.{weighted_sum}
use Rattle.line_solvers.proofs.WeightedSums.{weighted_sum-row-le, sum_fits, small_fits}
use Rattle.line_solvers.proofs.rows.total_of.Goals as goal

states_is : (c : goal.After-weighted_sum-2) → c.weighted_sum.result ≡ weighted_sum c.args.row.now.states c.args.state.now
states_is c = cc (c.weighted_sum.ensures, c.as_slice.ensures)

reads_is : (c : goal.After-weighted_sum-2) → c.weighted_sum-2.result ≡ weighted_sum c.args.row.now.reads c.args.inputs.now
reads_is c = cc (c.weighted_sum-2.ensures, c.as_slice-2.ensures)

states_bound : (c : goal.After-weighted_sum-2) → unsigned_abs c.weighted_sum.result ≤ 64 * 10 ^ 22
states_bound c =
    rw (states_is c)
    (weighted_sum-row-le c.args.row.now.states c.args.state.now c.requires.row.few_states c.requires.row.states c.requires.state)

reads_bound : (c : goal.After-weighted_sum-2) → unsigned_abs c.weighted_sum-2.result ≤ 64 * 10 ^ 22
reads_bound c =
    rw (reads_is c)
    (weighted_sum-row-le c.args.row.now.reads c.args.inputs.now c.requires.row.few_reads c.requires.row.reads c.requires.inputs)

fits : (c : goal.After-weighted_sum-2) → SFits w128 (c.weighted_sum.result +ℤ c.weighted_sum-2.result)
fits c = sum_fits c.weighted_sum.result c.weighted_sum-2.result (64 * 10 ^ 22) (64 * 10 ^ 22) (states_bound c) (reads_bound c) (omega arith)

read_back : (c : goal.After-weighted_sum-2) → to_z w128 (of_z w128 c.weighted_sum.result) +ℤ to_z w128 (of_z w128 c.weighted_sum-2.result) ≡ c.weighted_sum.result +ℤ c.weighted_sum-2.result
read_back c =
    rw (
      to_z-of_z w128 c.weighted_sum.result (small_fits c.weighted_sum.result (64 * 10 ^ 22) (states_bound c) (omega arith)),
      to_z-of_z w128 c.weighted_sum-2.result (small_fits c.weighted_sum-2.result (64 * 10 ^ 22) (reads_bound c) (omega arith)),
    )

pub overflow_add-result : goal.overflow_add-result
overflow_add-result c = rw (read_back c) (fits c)

pub returns : goal.returns
returns c = rw (read_back c, to_z-of_z w128 (c.weighted_sum.result +ℤ c.weighted_sum-2.result) (fits c)) (cc (states_is c, reads_is c))
