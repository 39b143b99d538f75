use Rattle.std.proofs.Common.{◌≡◌, ◌+◌, ◌^◌, ◌<◌, ◌≤◌, ℤ, length, get_or, pos, ◌+ℤ◌, unsigned_abs, arith, ap, ◌∙◌, inl, inr}
use mir.Syntax.{w64}
use mir.Val.{to_z, of_z}
use Rattle.std.proofs.lemmas.Bool.{cases_eq}
use Rattle.std.proofs.lemmas.Int.{ints, to_z-of_z, fits_signed_from_abs}
use Rattle.std.proofs.lemmas.List.{get_or-set_same, get_or-set_other, get_or_read}
use Rattle.edge_projection.specs.MappedField.{part_of}
use Rattle.edge_projection.proofs.sums.add_row.Goals as goal

-- the sum that is written
written : (c : goal.After-added) → ℤ
written c = to_z w64 (of_z w64 c.added.result)

part_is : (c : goal.After-added) → c.part_of.result ≡ part_of c.args.rest c.args.weight (get_or c.args.values.now c.loop-c.c (pos 0))
part_is c =
    c.part_of.ensures.value
    ∙ ap (part_of c.args.rest c.args.weight)
    (get_or_read c.args.values.now c.loop-c.c c.index-values-c.result (omega (arith, c.loop-c-test.true, c.requires.alike)) c.index-values-c.is (pos 0))

sum_is : (c : goal.After-added) → written c ≡ get_or c.args.sums.now c.loop-c.c (pos 0) +ℤ c.part_of.result
unfolding written
sum_is c =
    let before = c.loop-c.invariant.rest c.loop-c.c (omega arith) in
    let small = c.requires.small c.loop-c.c (pos 0) c.loop-c-test.true in
    let sum = ap (λ (x : ℤ). to_z w64 (of_z w64 x)) before
    ∙ to_z-of_z w64 (get_or c.args.sums.now c.loop-c.c (pos 0)) (fits_signed_from_abs w64 (get_or c.args.sums.now c.loop-c.c (pos 0)) (omega (arith, small))) in
    let part = to_z-of_z w64 c.part_of.result (record { sfits = c.part_of.type_inv }) in
    to_z-of_z w64 c.added.result (record { sfits = c.added.type_inv })
    ∙ c.added.ensures
    ∙ ap (λ (x : ℤ). x +ℤ to_z w64 (of_z w64 c.part_of.result)) sum
    ∙ ap (λ (x : ℤ). get_or c.args.sums.now c.loop-c.c (pos 0) +ℤ x) part

inside : (c : goal.After-added) → c.loop-c.c < length c.loop-c.sums
inside c = omega (arith, c.loop-c-test.true, c.loop-c.auto.sums)

pub loop-c-preserved : goal.loop-c-preserved
unfolding written
loop-c-preserved c = record {
  added = λ k before. elim (cases_eq k c.loop-c.c) [
    | inl same ↦
        rw same
        (get_or-set_same c.loop-c.sums c.loop-c.c (written c) (pos 0) (inside c) ∙ sum_is c ∙ ap (λ (x : ℤ). get_or c.args.sums.now c.loop-c.c (pos 0) +ℤ x) (part_is c))
    | inr other ↦ get_or-set_other c.loop-c.sums c.loop-c.c k (written c) (pos 0) other ∙ c.loop-c.invariant.added k (omega (arith, before, other))
  ];
  bound = λ k before. elim (cases_eq k c.loop-c.c) [
    | inl same ↦
        let at = get_or-set_same c.loop-c.sums c.loop-c.c (written c) (pos 0) (inside c) ∙ sum_is c in
        rw same (rw at (small_sum (get_or c.args.sums.now c.loop-c.c (pos 0)) c.part_of.result c.part_of.ensures.bound))
    | inr other ↦
        rw (get_or-set_other c.loop-c.sums c.loop-c.c k (written c) (pos 0) other) (c.loop-c.invariant.bound k (omega (arith, before, other)))
  ];
  rest = λ k after.
      get_or-set_other c.loop-c.sums c.loop-c.c k (written c) (pos 0) (λ same. omega (arith, same, after)) ∙ c.loop-c.invariant.rest k (omega (arith, after));
}
  where
    small_sum : (x y : ℤ) → unsigned_abs y ≤ 10 ^ 13 → unsigned_abs (x +ℤ y) ≤ unsigned_abs x + 10 ^ 13
    small_sum x y h = omega (arith, ints)
