use Rattle.std.proofs.Common.{◌≡◌, rules, ℤ, ◌+ℤ◌, ◌*ℤ◌, arith, ◌∙◌, ap}
use mir.Syntax.{w128}
use mir.Val.{to_z, of_z}
use Rattle.std.proofs.lemmas.Int.{to_z-of_z, fits_signed_from_abs}
use Rattle.fixed_num.proofs.Products.{Carries-next, Carries-sum}
use Rattle.fixed_num.proofs.norms.dot.Goals as goal

pub loop-x-preserved : goal.loop-x-preserved
loop-x-preserved c =
    let before = c.loop-x.invariant in
    let split = rw (c.in-Some.ensures.steps.0, c.in-Some.ensures.steps.1) at before in
    let is : c.product-sum.result ≡ c.in-Some.x.now *ℤ c.in-Some.y.now = search rules in
    let next = Carries-next c.in-Some.x.now c.in-Some.y.now _ _ _ _ _ _ is c.product-sum.ensures.bound split in
    let sum = to_z w128 c.loop-x.sum-bits in
    let product = to_z-of_z w128 c.product-sum.result (record { sfits = c.product-sum.type_inv }) in
    let back : to_z w128 (of_z w128 (sum +ℤ to_z w128 (of_z w128 c.product-sum.result))) ≡ sum +ℤ c.product-sum.result =
    ap (λ (n : ℤ). to_z w128 (of_z w128 (sum +ℤ n))) product
    ∙ to_z-of_z w128 (sum +ℤ c.product-sum.result) (fits_signed_from_abs w128 (sum +ℤ c.product-sum.result) (omega (arith, next.room))) in
    Carries-sum _ _ _ _ _ _ back next
