use Rattle.std.proofs.Common.{◌*◌, ◌^◌, ◌≤◌, arith}
use Rattle.std.proofs.lemmas.Int.{ints}
use Rattle.std.proofs.lemmas.Nat.{mul-le}
use Rattle.fixed_num.proofs.norms.square_of_difference.Goals as goal

-- two numbers within 4 * 10^13 differ by at most 8 * 10^13
pub returns-clause-bound : goal.returns-clause-bound
returns-clause-bound g c =
    let near : c.from-size.result ≤ 8 * 10 ^ 13 = omega (arith, ints) in
    let square = mul-le c.from-size.result c.from-size.result (8 * 10 ^ 13) (8 * 10 ^ 13) near near in
    omega (arith, square, near)
