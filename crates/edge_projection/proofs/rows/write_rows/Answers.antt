use Rattle.std.proofs.Common.{◌≡◌, ℕ, ◌+◌, ◌-◌, ◌*◌, ◌≤◌, ◌<◌, length, get_or, take, drop, inl, inr, pos, arith, ap, ◌∙◌, ℤ}
use Rattle.std.proofs.lemmas.Bool.{cases_lt}
use Rattle.std.proofs.lemmas.Nat.{row_fits}
use Rattle.edge_projection.specs.MappedField.{between, foot_number}
use Rattle.edge_projection.proofs.RowWrites.{row_written, row_kept, column_of}
use Rattle.edge_projection.proofs.rows.write_rows.Goals as goal

inside : (c : goal.After-out-1) → c.loop-v.v * c.args.row + c.args.row ≤ length c.loop-v.out
inside c = omega (arith, c.loop-v.auto.out, c.requires.out, row_fits c.loop-v.v c.args.row (length c.args.feet.now) c.args.row c.loop-v-test.true (omega arith))

-- a value in the row of a vertex
row_of : (c : goal.After-out-1) (w k : ℕ) → k < c.args.row → get_or (take (w * c.args.row + c.args.row - w * c.args.row) (drop (w * c.args.row) c.args.values.now)) k (pos 0) ≡ get_or c.args.values.now (w * c.args.row + k) (pos 0)
row_of c w k column = column_of (w * c.args.row) (w * c.args.row + c.args.row - w * c.args.row) c.args.row k c.args.values.now (pos 0) (omega arith) column

pub loop-v-preserved : goal.loop-v-preserved
loop-v-preserved c = λ v k before column.
    elim (cases_lt v c.loop-v.v) [
      | inl earlier ↦
          row_kept v c.loop-v.v _ c.args.row k c.loop-v.out c.write_row.new.out (pos 0) (omega arith) (inside c) (omega (arith, inside c, c.write_row.auto.out)) column (λ same. omega (arith, same))
          ∙ c.loop-v.invariant v k earlier column
      | inr here ↦
          let same : v ≡ c.loop-v.v = omega arith in
          rw same
          (row_written c.loop-v.v _ c.args.row k c.loop-v.out c.write_row.new.out (pos 0) (inside c) (omega (arith, inside c, c.write_row.auto.out)) column
          ∙ c.write_row.ensures k (omega (arith, column, inside c, c.write_row.auto.out))
          ∙ ap (λ (x : ℤ). between (foot_number c.args.feet.now c.loop-v.v).weight x (get_or (take ((foot_number c.args.feet.now c.loop-v.v).b * c.args.row + c.args.row - (foot_number c.args.feet.now c.loop-v.v).b * c.args.row) (drop ((foot_number c.args.feet.now c.loop-v.v).b * c.args.row) c.args.values.now)) k (pos 0)))
          (row_of c (foot_number c.args.feet.now c.loop-v.v).a k column)
          ∙ ap (λ (x : ℤ). between (foot_number c.args.feet.now c.loop-v.v).weight (get_or c.args.values.now ((foot_number c.args.feet.now c.loop-v.v).a * c.args.row + k) (pos 0)) x)
          (row_of c (foot_number c.args.feet.now c.loop-v.v).b k column))
    ]
