use Rattle.std.proofs.Common.{◌≡◌, ◌≤◌, ◌*◌, ◌^◌, ◌+◌, ◌+ℤ◌, unsigned_abs, arith, subst, ◌∙◌, ℤ}
use mir.Syntax.{w64, w128}
use mir.Val.{to_z, of_z, SFits}
use Rattle.std.proofs.lemmas.Int.{to_z-of_z, fits_signed_from_abs}
use Rattle.fixed_num.specs.Numbers.{IsRoundedQuotient}
use Rattle.line_solvers.proofs.WeightedSums.{total-le, quotient-le, sum_fits, small_fits}
use Rattle.line_solvers.proofs.rows.component_of.Goals as goal

total_bound : (c : goal.After-quot_even) → unsigned_abs c.total_of.result ≤ 128 * 10 ^ 22
total_bound c = rw c.total_of.ensures (total-le c.args.inputs.now c.args.state.now c.args.row.now c.requires.row c.requires.state c.requires.inputs)

total_is : (c : goal.After-quot_even) → to_z w128 (of_z w128 c.total_of.result) ≡ c.total_of.result
total_is c = to_z-of_z w128 c.total_of.result (small_fits c.total_of.result (128 * 10 ^ 22) (total_bound c) (omega arith))

quotient_bound : (c : goal.After-quot_even) → unsigned_abs c.quot_even.result ≤ 128 * 10 ^ 22 + 1
quotient_bound c =
    let rounded = subst (λ (a : ℤ). IsRoundedQuotient a (10 ^ 6) c.quot_even.result) (total_is c) c.quot_even.ensures.nearest in
    omega (arith, quotient-le c.total_of.result c.quot_even.result rounded, total_bound c)

add_is : (c : goal.After-quot_even) → c.from.result ≡ c.args.row.now.add
add_is c = c.from.ensures ∙ to_z-of_z w64 c.args.row.now.add (fits_signed_from_abs w64 c.args.row.now.add (omega (arith, c.requires.row.add)))

add_bound : (c : goal.After-quot_even) → unsigned_abs c.from.result ≤ 10 ^ 13
add_bound c = rw (add_is c) c.requires.row.add

fits : (c : goal.After-quot_even) → SFits w128 (c.from.result +ℤ c.quot_even.result)
fits c = sum_fits c.from.result c.quot_even.result (10 ^ 13) (128 * 10 ^ 22 + 1) (add_bound c) (quotient_bound c) (omega arith)

read_back : (c : goal.After-quot_even) → to_z w128 (of_z w128 c.from.result) +ℤ to_z w128 (of_z w128 c.quot_even.result) ≡ c.from.result +ℤ c.quot_even.result
read_back c =
    rw (
      to_z-of_z w128 c.from.result (small_fits c.from.result (10 ^ 13) (add_bound c) (omega arith)),
      to_z-of_z w128 c.quot_even.result (small_fits c.quot_even.result (128 * 10 ^ 22 + 1) (quotient_bound c) (omega arith)),
    )

pub overflow_add-result : goal.overflow_add-result
overflow_add-result c = rw (read_back c) (fits c)

pub returns : goal.returns
returns c =
    rw (read_back c, to_z-of_z w128 (c.from.result +ℤ c.quot_even.result) (fits c))
    (cc (add_is c, c.quot_even.ensures.value, total_is c, c.total_of.ensures))
