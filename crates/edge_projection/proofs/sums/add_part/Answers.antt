use Rattle.std.proofs.Common.{◌≡◌, ℕ, ◌+◌, ◌*◌, ◌^◌, ◌<◌, ◌≤◌, Bool, cond, eq-eqb, All, length, get_or, take, drop, inl, inr, pos, ◌+ℤ◌, unsigned_abs, ◌-◌, arith, refl, ap, sym, ◌∙◌, List, ℤ}
use Rattle.std.proofs.Math.IntN.{+ℤ_idr}
use Rattle.std.proofs.lemmas.Bool.{cases_eq, ne_eqb}
use Rattle.std.proofs.lemmas.List.{get_or_default}
use Rattle.std.proofs.lemmas.List.Elements.{All-weaker}
use Rattle.edge_projection.specs.MappedField.{component_of, part_of, given_at}
use Rattle.edge_projection.proofs.RowWrites.{row_written, row_kept, column_of, put_mid-All}
use Rattle.edge_projection.proofs.sums.add_part.Goals as goal

alike : (c : goal.After-sums-1) → length c.add_row.new.sums ≡ c.args.field.now.components
alike c = omega (arith, c.requires.target, c.add_row.auto.sums)

added : (c : goal.After-sums-1) (k : ℕ) → k < c.args.field.now.components
    → get_or c.add_row.new.sums k (pos 0)
    ≡ get_or c.args.sums.now (c.args.w * c.args.field.now.components + k) (pos 0) +ℤ part_of c.args.rest c.args.weight (component_of c.args.field.now c.args.u k)
added c k column =
    let sums = column_of (c.args.w * c.args.field.now.components) (c.args.w * c.args.field.now.components + c.args.field.now.components - c.args.w * c.args.field.now.components) c.args.field.now.components k c.args.sums.now (pos 0) (omega arith) column in
    let values = column_of (c.args.u * c.args.field.now.components) (c.args.u * c.args.field.now.components + c.args.field.now.components - c.args.u * c.args.field.now.components) c.args.field.now.components k c.as_slice-values.result.now (pos 0) (omega arith) column in
    let same = ap (λ (xs : List ℤ). get_or xs (c.args.u * c.args.field.now.components + k) (pos 0)) c.as_slice-values.ensures in
    let part = ap (part_of c.args.rest c.args.weight) (values ∙ same) in
    let sum = c.add_row.ensures.added k (omega (arith, alike c, column)) in
    sum
    ∙ ap (λ (x : ℤ). x +ℤ part_of c.args.rest c.args.weight (get_or (take (c.args.u * c.args.field.now.components + c.args.field.now.components - c.args.u * c.args.field.now.components) (drop (c.args.u * c.args.field.now.components) c.as_slice-values.result.now)) k (pos 0))) sums
    ∙ ap (λ (x : ℤ). get_or c.args.sums.now (c.args.w * c.args.field.now.components + k) (pos 0) +ℤ x) part

given-here : (w : ℕ) (x : ℤ) → given_at w w x ≡ x
given-here w x = ap (λ (b : Bool). cond b x (pos 0)) (eq-eqb w w refl)

given-elsewhere : (w v : ℕ) (x y : ℤ) → (w ≡ v → ⊥) → y ≡ y +ℤ given_at w v x
given-elsewhere w v x y other = sym (ap (λ (b : Bool). y +ℤ cond b x (pos 0)) (ne_eqb w v other) ∙ +ℤ_idr y)

pub returns-clause-added : goal.returns-clause-added
returns-clause-added c = λ v k within column.
    elim (cases_eq c.args.w v) [
      | inl here ↦
          rw (← here)
          (row_written c.args.w _ c.args.field.now.components k c.args.sums.now c.add_row.new.sums (pos 0) c.requires.target (alike c) column
          ∙ added c k column
          ∙ ap (λ (x : ℤ). get_or c.args.sums.now (c.args.w * c.args.field.now.components + k) (pos 0) +ℤ x)
          (sym (given-here c.args.w (part_of c.args.rest c.args.weight (component_of c.args.field.now c.args.u k)))))
      | inr other ↦
          row_kept v c.args.w _ c.args.field.now.components k c.args.sums.now c.add_row.new.sums (pos 0) (omega arith) c.requires.target (alike c) column (λ same. other (sym same))
          ∙ given-elsewhere c.args.w v (part_of c.args.rest c.args.weight (component_of c.args.field.now c.args.u k))
          (get_or c.args.sums.now (v * c.args.field.now.components + k) (pos 0)) other
    ]

small : (c : goal.After-sums-1) (most : ℕ) → All (λ (sum : ℤ). unsigned_abs sum ≤ most) c.args.sums.now → All (λ (sum : ℤ). unsigned_abs sum ≤ most + 10 ^ 13) c.add_row.new.sums
small c most old = λ k d within.
    let column : k < c.args.field.now.components = omega (arith, alike c, within) in
    let sums = column_of (c.args.w * c.args.field.now.components) (c.args.w * c.args.field.now.components + c.args.field.now.components - c.args.w * c.args.field.now.components) c.args.field.now.components k c.args.sums.now (pos 0) (omega arith) column in
    let before = old (c.args.w * c.args.field.now.components + k) (pos 0) (omega (arith, c.requires.target, column)) in
    let after = c.add_row.ensures.bound k (omega (arith, alike c, column)) in
    let size = ap unsigned_abs sums in
    rw (get_or_default c.add_row.new.sums k d (pos 0) within) (omega (arith, before, after, size))

pub returns-clause-bound : goal.returns-clause-bound
returns-clause-bound c = λ most old.
    put_mid-All (λ (sum : ℤ). unsigned_abs sum ≤ most + 10 ^ 13) _ _ c.args.sums.now c.add_row.new.sums
    (All-weaker (λ (sum : ℤ). unsigned_abs sum ≤ most) (λ (sum : ℤ). unsigned_abs sum ≤ most + 10 ^ 13) (λ sum h. omega arith) c.args.sums.now old)
    (small c most old)
