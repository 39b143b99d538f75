use Rattle.std.proofs.Common.{◌≡◌, ◌*◌, ◌^◌, ◌≤◌, ℤ, pos, neg_ℤ, ◌-ℤ◌, ◌*ℤ◌, unsigned_abs, arith, ◌∙◌, ap}
use mir.Syntax.{w64, w128}
use mir.Val.{to_z, of_z}
use Rattle.std.proofs.lemmas.Int.{ints, to_z-of_z, fits_signed_from_abs}
use Rattle.fixed_num.specs.Numbers.{quotient}
use Rattle.fixed_num.specs.Relaxation.{projection, within}
use Rattle.fixed_num.proofs.relaxation.aitken.Goals as goal

scaled_is : (c : goal.After-nearest_factor) → c.scaled.result ≡ quotient (c.args.w *ℤ projection c.args.dot (unsigned_abs c.args.square)) (10 ^ 6)
scaled_is c =
    let w = to_z-of_z w64 c.get.result (record { sfits = c.get.type_inv }) ∙ c.get.ensures.units in
    let dot = to_z-of_z w128 c.args.dot c.ranges.dot in
    let square = to_z-of_z w128 c.args.square c.ranges.square in
    let projected =
    to_z-of_z w128 c.projection.result (record { sfits = c.projection.type_inv })
    ∙ c.projection.ensures.value
    ∙ ap (λ (n : ℤ). projection n (unsigned_abs (to_z w128 (of_z w128 c.args.square)))) dot
    ∙ ap (λ (n : ℤ). projection c.args.dot (unsigned_abs n)) square in
    c.scaled.ensures.value
    ∙ ap (λ (n : ℤ). quotient (n *ℤ to_z w128 (of_z w128 c.projection.result)) (10 ^ 6)) w
    ∙ ap (λ (n : ℤ). quotient (c.args.w *ℤ n) (10 ^ 6)) projected

opposite_small : (a : ℤ) → unsigned_abs a ≤ 2 * 10 ^ 16 → unsigned_abs (neg_ℤ a) ≤ 2 * 10 ^ 16
opposite_small a h = omega (arith, ints)

opposite : (a : ℤ) → pos 0 -ℤ a ≡ neg_ℤ a
opposite a = omega (arith, ints)

pub returns : goal.returns
returns c =
    let back = to_z-of_z w128 c.scaled.result (record { sfits = c.scaled.type_inv }) in
    c.nearest_factor.ensures
    ∙ ap (λ (n : ℤ). within (10 ^ 9) (to_z w128 (of_z w128 (pos 0 -ℤ n)))) back
    ∙ ap (λ (n : ℤ). within (10 ^ 9) (to_z w128 (of_z w128 n))) (opposite c.scaled.result)
    ∙ ap (within (10 ^ 9)) (to_z-of_z w128 (neg_ℤ c.scaled.result) (fits_signed_from_abs w128 (neg_ℤ c.scaled.result) (omega (arith, opposite_small c.scaled.result c.scaled.ensures.bound))))
    ∙ ap (λ (n : ℤ). within (10 ^ 9) (neg_ℤ n)) (scaled_is c)
