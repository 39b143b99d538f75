use Rattle.std.proofs.Common.{◌≡◌, ◌≢◌, ◌≤ℤ◌, ℤ, List, pos, unsigned_abs, arith, ap, sym, ◌∙◌}
use mir.Syntax.{w128}
use mir.Val.{to_z, of_z}
use Rattle.std.proofs.lemmas.Int.{ints, to_z-of_z}
use Rattle.fixed_num.specs.Norm.{product_sum}
use Rattle.fixed_num.specs.Relaxation.{aitken_factor}
use Rattle.acceleration.proofs.Sums.{dot-le, square_sum-le, square_sum-natural}
use Rattle.acceleration.proofs.NextFactors.{factor_stays, factor_moves}
use Rattle.acceleration.proofs.factor.factor_after.Goals as goal

-- the bits of a sum of squares are its magnitude
bits_of_square : (change : List ℤ) (square : ℤ) → square ≡ product_sum change change → of_z w128 square ≡ unsigned_abs (product_sum change change)
bits_of_square change square is = ap (of_z w128) (is ∙ sym (square_sum-natural change))

-- a sum of squares that is not zero is at least one
one_at_least : (change : List ℤ) (square : ℤ) → square ≡ product_sum change change → of_z w128 square ≢ 0 → pos 1 ≤ℤ square
one_at_least change square is some =
    let natural = is ∙ sym (square_sum-natural change) in
    let size = unsigned_abs (product_sum change change) in
    let large : size ≢ 0 = λ none. some (bits_of_square change square is ∙ none) in
    rw natural (omega (arith, ints, large))

pub returns-then-square-eq0 : goal.returns-then-square-eq0
returns-then-square-eq0 c =
    sym (factor_stays c.args.factor c.args.before.now c.args.change.now
    (sym (bits_of_square c.args.change.now c.dot-square.result c.dot-square.ensures) ∙ c.if-square-eq0.true))

pub aitken-requires-clause-dot : goal.aitken-requires-clause-dot
aitken-requires-clause-dot c =
    rw (to_z-of_z w128 c.dot.result (record { sfits = c.dot.type_inv }), c.dot.ensures)
    (dot-le c.args.before.now c.args.change.now c.requires.few c.requires.before c.requires.change)

pub aitken-requires-clause-positive : goal.aitken-requires-clause-positive
aitken-requires-clause-positive c =
    rw (to_z-of_z w128 c.dot-square.result (record { sfits = c.dot-square.type_inv }))
    (one_at_least c.args.change.now c.dot-square.result c.dot-square.ensures c.if-square-eq0.false)

pub aitken-requires-clause-square : goal.aitken-requires-clause-square
aitken-requires-clause-square c =
    let small = square_sum-le c.args.change.now (omega (arith, c.requires.few, c.requires.len)) c.requires.change in
    rw (to_z-of_z w128 c.dot-square.result (record { sfits = c.dot-square.type_inv }), c.dot-square.ensures)
    (omega (arith, ints, small))

pub returns : goal.returns
returns c =
    let dot = to_z-of_z w128 c.dot.result (record { sfits = c.dot.type_inv }) ∙ c.dot.ensures in
    let square = to_z-of_z w128 c.dot-square.result (record { sfits = c.dot-square.type_inv }) ∙ c.dot-square.ensures in
    c.aitken.ensures
    ∙ ap (λ (n : ℤ). aitken_factor c.args.factor n (unsigned_abs (to_z w128 (of_z w128 c.dot-square.result)))) dot
    ∙ ap (λ (n : ℤ). aitken_factor c.args.factor (product_sum c.args.before.now c.args.change.now) (unsigned_abs n)) square
    ∙ sym (factor_moves c.args.factor c.args.before.now c.args.change.now
    (λ none. c.if-square-eq0.false (bits_of_square c.args.change.now c.dot-square.result c.dot-square.ensures ∙ none)))
