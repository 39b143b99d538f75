use Rattle.std.proofs.Common.{◌≡◌, ◌+◌, ◌*◌, ◌^◌, ◌≤◌, pos, unsigned_abs, arith, sym, ◌∙◌, ℤ}
use Rattle.std.proofs.lemmas.Int.{ints}
use Rattle.std.proofs.lemmas.List.Elements.{All-weaker}
use Rattle.edge_projection.specs.MappedField.{given_by}
use Rattle.edge_projection.proofs.Totals.{total_more, total_none}
use Rattle.edge_projection.proofs.sums.add_feet.Goals as goal

pub loop-u-init : goal.loop-u-init
loop-u-init c = record {
  sums = λ v k within column. c.requires.zeros (v * c.args.field.now.components + k) (pos 0) (omega (arith, within, column)) ∙ sym (total_none (given_by c.args.feet.now c.args.field.now k v));
  bound = All-weaker (λ (sum : ℤ). sum ≡ pos 0) (λ (sum : ℤ). unsigned_abs sum ≤ 0) (λ sum none. omega (arith, ints, none)) c.args.sums.now c.requires.zeros;
}

pub add_part-requires-in-loop-u-clause-small : goal.add_part-requires-in-loop-u-clause-small
add_part-requires-in-loop-u-clause-small c =
    All-weaker (λ (sum : ℤ). unsigned_abs sum ≤ c.loop-u.u * (2 * 10 ^ 13) + 10 ^ 13) (λ (sum : ℤ). unsigned_abs sum ≤ 10 ^ 18) (λ sum h. omega (arith, h, c.loop-u-test.true, c.requires.few)) c.add_part.new.sums
    (c.add_part.ensures.bound (c.loop-u.u * (2 * 10 ^ 13)) c.loop-u.invariant.bound)

pub loop-u-preserved : goal.loop-u-preserved
loop-u-preserved c = record {
  sums = λ v k within column.
      let first = c.add_part.ensures.added v k (omega (arith, within, c.add_part-in-loop-u.auto.sums)) column in
      let second = c.add_part-in-loop-u.ensures.added v k within column in
      let before = c.loop-u.invariant.sums v k (omega (arith, within, c.add_part.auto.sums, c.add_part-in-loop-u.auto.sums)) column in
      let more = total_more (given_by c.args.feet.now c.args.field.now k v) c.loop-u.u in
      omega (arith, ints, first, second, before, more);
  bound = All-weaker (λ (sum : ℤ). unsigned_abs sum ≤ (c.loop-u.u * (2 * 10 ^ 13) + 10 ^ 13) + 10 ^ 13) (λ (sum : ℤ). unsigned_abs sum ≤ (c.loop-u.u + 1) * (2 * 10 ^ 13)) (λ sum h. omega (arith, h)) c.add_part-in-loop-u.new.sums
      (c.add_part-in-loop-u.ensures.bound (c.loop-u.u * (2 * 10 ^ 13) + 10 ^ 13) (c.add_part.ensures.bound (c.loop-u.u * (2 * 10 ^ 13)) c.loop-u.invariant.bound));
}
