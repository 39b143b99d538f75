use Rattle.std.proofs.Common.{◌≡◌, ◌+◌, ◌*◌, ◌≤◌, length, get_or, inl, inr, pos, arith, ap, ◌∙◌, List, ℤ}
use Rattle.std.proofs.lemmas.Bool.{cases_lt}
use Rattle.std.proofs.lemmas.Nat.{row_fits}
use Rattle.nn_mapping.proofs.RowWrites.{row_written, row_kept, column_of}
use Rattle.nn_mapping.proofs.rows.copy_rows.Goals as goal

inside : (c : goal.After-out-1) → c.loop-v.v * c.args.row + c.args.row ≤ length c.loop-v.out
inside c = omega (arith, c.loop-v.auto.out, c.requires.out, row_fits c.loop-v.v c.args.row (length c.args.nearest.now) c.args.row c.loop-v-test.true (omega arith))

pub loop-v-preserved : goal.loop-v-preserved
loop-v-preserved c = λ v k before column.
    elim (cases_lt v c.loop-v.v) [
      | inl earlier ↦
          row_kept v c.loop-v.v _ c.args.row k c.loop-v.out c.copy_from_slice.new.self (pos 0) (omega arith) (inside c) (omega (arith, inside c, c.copy_from_slice.auto.self)) column (λ same. omega (arith, same))
          ∙ c.loop-v.invariant v k earlier column
      | inr here ↦
          let same : v ≡ c.loop-v.v = omega arith in
          rw same
          (row_written c.loop-v.v _ c.args.row k c.loop-v.out c.copy_from_slice.new.self (pos 0) (inside c) (omega (arith, inside c, c.copy_from_slice.auto.self)) column
          ∙ ap (λ (xs : List ℤ). get_or xs k (pos 0)) c.copy_from_slice.ensures.after
          ∙ column_of _ _ c.args.row k c.args.values.now (pos 0) (omega arith) column)
    ]
