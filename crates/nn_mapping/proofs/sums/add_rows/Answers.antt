use Rattle.std.proofs.Common.{◌≡◌, ℕ, ◌+◌, ◌*◌, ◌^◌, ◌<◌, ◌≤◌, All, length, get_or, inl, inr, pos, ◌+ℤ◌, unsigned_abs, ◌-◌, arith, refl, ap, sym, ◌∙◌, List, ℤ}
use Rattle.std.proofs.lemmas.Bool.{cases_eq}
use Rattle.std.proofs.lemmas.List.{get_or_default}
use Rattle.std.proofs.lemmas.List.Elements.{All-weaker}
use Rattle.nn_mapping.specs.MappedField.{component_of}
use Rattle.nn_mapping.proofs.SourceSums.{sum-taken, sum-left}
use Rattle.nn_mapping.proofs.RowWrites.{row_written, row_kept, column_of, put_mid-All}
use Rattle.nn_mapping.proofs.sums.add_rows.Goals as goal

-- the row that is added to
inside : (c : goal.After-sums-1) → get_or c.args.nearest.now c.loop-s.s 0 * c.args.field.now.components + c.args.field.now.components ≤ length c.loop-s.sums
inside c = omega (arith, c.loop-s.auto.sums, c.requires.vertices c.loop-s.s 0 c.loop-s-test.true)

alike : (c : goal.After-sums-1) → length c.add_row.new.sums ≡ c.args.field.now.components
alike c = omega (arith, inside c, c.add_row.auto.sums)

added : (c : goal.After-sums-1) (k : ℕ) → k < c.args.field.now.components
    → get_or c.add_row.new.sums k (pos 0)
    ≡ get_or c.loop-s.sums (get_or c.args.nearest.now c.loop-s.s 0 * c.args.field.now.components + k) (pos 0) +ℤ component_of c.args.field.now c.loop-s.s k
added c k column =
    let sums = column_of (get_or c.args.nearest.now c.loop-s.s 0 * c.args.field.now.components) (get_or c.args.nearest.now c.loop-s.s 0 * c.args.field.now.components + c.args.field.now.components - get_or c.args.nearest.now c.loop-s.s 0 * c.args.field.now.components) c.args.field.now.components k c.loop-s.sums (pos 0) (omega arith) column in
    let values = column_of (c.loop-s.s * c.args.field.now.components) (c.loop-s.s * c.args.field.now.components + c.args.field.now.components - c.loop-s.s * c.args.field.now.components) c.args.field.now.components k c.as_slice-values.result.now (pos 0) (omega arith) column in
    let same = ap (λ (xs : List ℤ). get_or xs (c.loop-s.s * c.args.field.now.components + k) (pos 0)) c.as_slice-values.ensures in
    let sum = c.add_row.ensures.added k (omega (arith, alike c, column)) in
    cc

small : (c : goal.After-sums-1) → All (λ (sum : ℤ). unsigned_abs sum ≤ (c.loop-s.s + 1) * 10 ^ 13) c.add_row.new.sums
small c = λ k d within.
    let column : k < c.args.field.now.components = omega (arith, alike c, within) in
    let sums = column_of (get_or c.args.nearest.now c.loop-s.s 0 * c.args.field.now.components) (get_or c.args.nearest.now c.loop-s.s 0 * c.args.field.now.components + c.args.field.now.components - get_or c.args.nearest.now c.loop-s.s 0 * c.args.field.now.components) c.args.field.now.components k c.loop-s.sums (pos 0) (omega arith) column in
    let before = c.loop-s.invariant.bound (get_or c.args.nearest.now c.loop-s.s 0 * c.args.field.now.components + k) (pos 0) (omega (arith, inside c, column)) in
    let after = c.add_row.ensures.bound k (omega (arith, alike c, column)) in
    let size = ap unsigned_abs sums in
    rw (get_or_default c.add_row.new.sums k d (pos 0) within) (omega (arith, before, after, size))

pub loop-s-preserved : goal.loop-s-preserved
loop-s-preserved c = record {
  sums = λ v k within column.
      elim (cases_eq (get_or c.args.nearest.now c.loop-s.s 0) v) [
        | inl here ↦
            rw (← here)
            (row_written (get_or c.args.nearest.now c.loop-s.s 0) _ c.args.field.now.components k c.loop-s.sums c.add_row.new.sums (pos 0) (inside c) (alike c) column
            ∙ added c k column
            ∙ ap (λ (sum : ℤ). sum +ℤ component_of c.args.field.now c.loop-s.s k) (c.loop-s.invariant.sums (get_or c.args.nearest.now c.loop-s.s 0) k (inside c) column)
            ∙ sym (sum-taken c.args.field.now k (get_or c.args.nearest.now c.loop-s.s 0) c.loop-s.s c.args.nearest.now refl))
        | inr other ↦
            row_kept v (get_or c.args.nearest.now c.loop-s.s 0) _ c.args.field.now.components k c.loop-s.sums c.add_row.new.sums (pos 0) (omega arith) (inside c) (alike c) column (λ same. other (sym same))
            ∙ c.loop-s.invariant.sums v k (omega (arith, within, c.add_row.auto.sums, inside c, alike c)) column
            ∙ sym (sum-left c.args.field.now k v c.loop-s.s c.args.nearest.now other)
      ];
  bound = put_mid-All (λ (sum : ℤ). unsigned_abs sum ≤ (c.loop-s.s + 1) * 10 ^ 13) _ _ c.loop-s.sums c.add_row.new.sums
      (All-weaker (λ (sum : ℤ). unsigned_abs sum ≤ c.loop-s.s * 10 ^ 13) (λ (sum : ℤ). unsigned_abs sum ≤ (c.loop-s.s + 1) * 10 ^ 13) (λ sum h. omega arith) c.loop-s.sums c.loop-s.invariant.bound)
      (small c);
}
