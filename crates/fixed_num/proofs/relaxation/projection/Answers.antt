use Rattle.std.proofs.Common.{◌≡◌, ◌*◌, ◌^◌, ◌≤◌, ℤ, pos, ◌*ℤ◌, unsigned_abs, arith, ◌∙◌, ap}
use mir.Syntax.{w128}
use mir.Val.{to_z, of_z}
use Rattle.std.proofs.lemmas.Int.{to_z-of_z, fits_signed_from_abs, unsigned_abs-mul}
use Rattle.fixed_num.specs.Numbers.{quotient}
use Rattle.fixed_num.specs.Relaxation.{within}
use Rattle.fixed_num.proofs.relaxation.projection.Goals as goal

scaled_small : (c : goal.After-clamp) → unsigned_abs (c.args.dot *ℤ pos (10 ^ 6)) ≤ 16 * 10 ^ 37
scaled_small c = rw (unsigned_abs-mul c.args.dot (pos (10 ^ 6))) (omega (arith, c.requires.dot))

quotient_is : (c : goal.After-clamp) → c.quot_even.result ≡ quotient (c.args.dot *ℤ pos (10 ^ 6)) (unsigned_abs c.args.square)
quotient_is c =
    c.quot_even.ensures.value
    ∙ ap (λ (n : ℤ). quotient (to_z w128 (of_z w128 (n *ℤ pos (10 ^ 6)))) (unsigned_abs (to_z w128 (of_z w128 c.args.square)))) (to_z-of_z w128 c.args.dot c.ranges.dot)
    ∙ ap (λ (n : ℤ). quotient n (unsigned_abs (to_z w128 (of_z w128 c.args.square)))) (to_z-of_z w128 (c.args.dot *ℤ pos (10 ^ 6)) (fits_signed_from_abs w128 (c.args.dot *ℤ pos (10 ^ 6)) (omega (arith, scaled_small c))))
    ∙ ap (λ (n : ℤ). quotient (c.args.dot *ℤ pos (10 ^ 6)) (unsigned_abs n)) (to_z-of_z w128 c.args.square c.ranges.square)

pub returns-clause-value : goal.returns-clause-value
returns-clause-value c =
    to_z-of_z w128 c.clamp.result (record { sfits = c.clamp.type_inv })
    ∙ c.clamp.ensures.value
    ∙ ap (λ (n : ℤ). within (10 ^ 12) n) (to_z-of_z w128 c.quot_even.result (record { sfits = c.quot_even.type_inv }) ∙ quotient_is c)
