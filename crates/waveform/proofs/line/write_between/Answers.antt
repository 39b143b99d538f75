use Rattle.std.proofs.Common.{◌≡◌, ◌+◌, ◌<◌, ℤ, pos, List, length, get_or, set, take, arith, sym, ap, ◌∙◌, [], ◌∷◌, ◌++◌}
use mir.Syntax.{w64}
use mir.Val.{to_z, of_z}
use Rattle.std.proofs.lemmas.Int.{to_z-of_z}
use Rattle.std.proofs.lemmas.List.{take_all, take_more, take_more_set, length-set}
use Rattle.std.proofs.lemmas.List.Elements.{All-push}
use Rattle.fixed_num.specs.Numbers.{IsValue}
use Rattle.waveform.specs.WaveValue.{values_between}
use Rattle.waveform.proofs.Lines.{values_between-get_or, length-values_between, units_at}
use Rattle.waveform.proofs.line.write_between.Goals as goal

in_first : (c : goal.After-component_between) → c.loop-i.i < length c.args.before.now.field.values
in_first c = omega (arith, c.requires, c.loop-i-test.true, c.loop-i.auto.out)

in_last : (c : goal.After-component_between) → c.loop-i.i < length c.args.after.now.field.values
in_last c = omega (arith, c.requires, c.loop-i-test.true, c.loop-i.auto.out)

first_is : (c : goal.After-component_between) → to_z w64 (of_z w64 c.get.result) ≡ get_or c.args.before.now.field.values c.loop-i.i (pos 0)
first_is c =
    units_at c.args.before.now.field.values c.loop-i.i c.get.result c.index-first-i.result (record { sfits = c.get.type_inv }) c.get.ensures.units
    (c.index-first-i.is ∙ ap (λ (xs : List ℤ). get_or xs c.loop-i.i c.index-first-i.result) c.as_slice-first.ensures) (in_first c)

last_is : (c : goal.After-component_between) → to_z w64 (of_z w64 c.get-in-loop-i.result) ≡ get_or c.args.after.now.field.values c.loop-i.i (pos 0)
last_is c =
    units_at c.args.after.now.field.values c.loop-i.i c.get-in-loop-i.result c.index-last-i.result (record { sfits = c.get-in-loop-i.type_inv }) c.get-in-loop-i.ensures.units
    (c.index-last-i.is ∙ ap (λ (xs : List ℤ). get_or xs c.loop-i.i c.index-last-i.result) c.as_slice-last.ensures) (in_last c)

back : (c : goal.After-component_between) → to_z w64 (of_z w64 c.component_between.result) ≡ c.component_between.result
back c = to_z-of_z w64 c.component_between.result (record { sfits = c.component_between.type_inv })

-- the component that is written
written : (c : goal.After-component_between) → to_z w64 (of_z w64 c.component_between.result) ≡ get_or (values_between c.args.before.now c.args.after.now c.args.t) c.loop-i.i (pos 0)
written c =
    back c ∙ c.component_between.ensures.component
    ∙ rw (first_is c, last_is c) (sym (values_between-get_or c.args.before.now c.args.after.now c.args.t c.loop-i.i (pos 0) (in_first c) (in_last c)))

set_more : (c : goal.After-component_between) → take (c.loop-i.i + 1) (set c.loop-i.out c.loop-i.i (to_z w64 (of_z w64 c.component_between.result))) ≡ take c.loop-i.i c.loop-i.out ++ to_z w64 (of_z w64 c.component_between.result) ∷ []
set_more c = take_more_set c.loop-i.out c.loop-i.i (to_z w64 (of_z w64 c.component_between.result)) (omega (arith, c.loop-i-test.true, c.loop-i.auto.out))

values_more : (c : goal.After-component_between) → take (c.loop-i.i + 1) (values_between c.args.before.now c.args.after.now c.args.t)
    ≡ take c.loop-i.i (values_between c.args.before.now c.args.after.now c.args.t) ++ get_or (values_between c.args.before.now c.args.after.now c.args.t) c.loop-i.i (pos 0) ∷ []
values_more c =
    take_more (values_between c.args.before.now c.args.after.now c.args.t) c.loop-i.i (pos 0)
    (omega (arith, in_first c, in_last c, length-values_between c.args.before.now c.args.after.now c.args.t))

pub loop-i-preserved : goal.loop-i-preserved
loop-i-preserved c = (
  length-set c.loop-i.out c.loop-i.i (to_z w64 (of_z w64 c.component_between.result)) ∙ c.loop-i.invariant.0,
  cc (set_more c, values_more c, written c, c.loop-i.invariant.1),
  rw (set_more c, back c) (All-push IsValue (take c.loop-i.i c.loop-i.out) c.component_between.result c.loop-i.invariant.2 c.component_between.ensures.in_range),
)

whole : (c : goal.After-loop-i) → take c.loop-i.i c.loop-i.out ≡ c.loop-i.out
whole c = take_all c.loop-i.i c.loop-i.out (omega (arith, c.loop-i-test.false, c.loop-i.invariant.0))

pub returns-clause-values : goal.returns-clause-values
returns-clause-values c =
    sym (whole c) ∙ c.loop-i.invariant.1
    ∙ take_all c.loop-i.i (values_between c.args.before.now c.args.after.now c.args.t)
    (omega (arith, length-values_between c.args.before.now c.args.after.now c.args.t, c.requires, c.loop-i-test.false))

pub returns-clause-in_range : goal.returns-clause-in_range
returns-clause-in_range c = rw (whole c) at c.loop-i.invariant.2
