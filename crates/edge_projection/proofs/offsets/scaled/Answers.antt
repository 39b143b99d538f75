use Rattle.std.proofs.Common.{◌≡◌, ◌*◌, ◌^◌, ◌≤◌, ℤ, pos, ◌-ℤ◌, ◌*ℤ◌, unsigned_abs, arith, ap, ◌∙◌}
use mir.Syntax.{w64}
use mir.Val.{to_z, of_z}
use Rattle.std.proofs.lemmas.Int.{ints, to_z-of_z, fits_signed_from_abs}
use Rattle.edge_projection.proofs.SquareBounds.{scaled-le}
use Rattle.edge_projection.proofs.offsets.scaled.Goals as goal

small : (c : goal.After-from) → unsigned_abs (pos c.args.weight *ℤ (c.args.y -ℤ c.args.x)) ≤ 2 * 10 ^ 18
small c = scaled-le c.args.weight c.args.y c.args.x c.requires.weight c.requires.end c.requires.start

product_is : (c : goal.After-from) → to_z w64 (of_z w64 c.from.result) *ℤ to_z w64 (of_z w64 (to_z w64 (of_z w64 c.args.y) -ℤ to_z w64 (of_z w64 c.args.x))) ≡ pos c.args.weight *ℤ (c.args.y -ℤ c.args.x)
product_is c =
    let weight = to_z-of_z w64 c.from.result (record { sfits = c.from.type_inv }) ∙ c.from.ensures in
    let y = to_z-of_z w64 c.args.y c.ranges.y in
    let x = to_z-of_z w64 c.args.x c.ranges.x in
    let near : unsigned_abs (c.args.y -ℤ c.args.x) ≤ 2 * 10 ^ 12 = omega (arith, ints, c.requires.start, c.requires.end) in
    ap (λ (n : ℤ). n *ℤ to_z w64 (of_z w64 (to_z w64 (of_z w64 c.args.y) -ℤ to_z w64 (of_z w64 c.args.x)))) weight
    ∙ ap (λ (n : ℤ). pos c.args.weight *ℤ to_z w64 (of_z w64 (n -ℤ to_z w64 (of_z w64 c.args.x)))) y
    ∙ ap (λ (n : ℤ). pos c.args.weight *ℤ to_z w64 (of_z w64 (c.args.y -ℤ n))) x
    ∙ ap (λ (n : ℤ). pos c.args.weight *ℤ n) (to_z-of_z w64 (c.args.y -ℤ c.args.x) (fits_signed_from_abs w64 (c.args.y -ℤ c.args.x) (omega (arith, near))))

pub overflow_mul-result : goal.overflow_mul-result
overflow_mul-result c = rw (product_is c) (fits_signed_from_abs w64 (pos c.args.weight *ℤ (c.args.y -ℤ c.args.x)) (omega (arith, small c)))

returned : (c : goal.After-from) → to_z w64 (of_z w64 (to_z w64 (of_z w64 c.from.result) *ℤ to_z w64 (of_z w64 (to_z w64 (of_z w64 c.args.y) -ℤ to_z w64 (of_z w64 c.args.x))))) ≡ pos c.args.weight *ℤ (c.args.y -ℤ c.args.x)
returned c =
    ap (λ (n : ℤ). to_z w64 (of_z w64 n)) (product_is c)
    ∙ to_z-of_z w64 (pos c.args.weight *ℤ (c.args.y -ℤ c.args.x)) (fits_signed_from_abs w64 (pos c.args.weight *ℤ (c.args.y -ℤ c.args.x)) (omega (arith, small c)))

pub returns-clause-value : goal.returns-clause-value
returns-clause-value c = returned c

pub returns-clause-bound : goal.returns-clause-bound
returns-clause-bound c = rw (returned c) (small c)
