use Rattle.std.proofs.Common.{◌≡◌, ◌+◌, ◌<◌, ℤ, pos, List, length, get_or, set, take, arith, sym, ap, ◌∙◌, [], ◌∷◌, ◌++◌}
use mir.Syntax.{w64}
use mir.Val.{to_z, of_z}
use Rattle.std.proofs.lemmas.Int.{to_z-of_z}
use Rattle.std.proofs.lemmas.List.{take_all, take_more, take_more_set, length-set}
use Rattle.std.proofs.lemmas.List.Elements.{All-push}
use Rattle.fixed_num.specs.Numbers.{IsValue}
use Rattle.waveform.proofs.Lines.{units_at}
use Rattle.waveform.proofs.reading.write_values.Goals as goal

inside : (c : goal.After-get) → c.loop-i.i < length c.args.field.now.values
inside c = omega (arith, c.requires, c.loop-i-test.true, c.loop-i.auto.out)

-- the value that is written
written : (c : goal.After-get) → to_z w64 (of_z w64 c.get.result) ≡ get_or c.args.field.now.values c.loop-i.i (pos 0)
written c =
    units_at c.args.field.now.values c.loop-i.i c.get.result c.index-values-i.result (record { sfits = c.get.type_inv }) c.get.ensures.units
    (c.index-values-i.is ∙ ap (λ (xs : List ℤ). get_or xs c.loop-i.i c.index-values-i.result) c.as_slice-values.ensures) (inside c)

back : (c : goal.After-get) → to_z w64 (of_z w64 c.get.result) ≡ c.get.result
back c = to_z-of_z w64 c.get.result (record { sfits = c.get.type_inv })

set_more : (c : goal.After-get) → take (c.loop-i.i + 1) (set c.loop-i.out c.loop-i.i (to_z w64 (of_z w64 c.get.result))) ≡ take c.loop-i.i c.loop-i.out ++ to_z w64 (of_z w64 c.get.result) ∷ []
set_more c = take_more_set c.loop-i.out c.loop-i.i (to_z w64 (of_z w64 c.get.result)) (omega (arith, c.loop-i-test.true, c.loop-i.auto.out))

pub loop-i-preserved : goal.loop-i-preserved
loop-i-preserved c = (
  length-set c.loop-i.out c.loop-i.i (to_z w64 (of_z w64 c.get.result)) ∙ c.loop-i.invariant.0,
  cc (set_more c, take_more c.args.field.now.values c.loop-i.i (pos 0) (inside c), written c, c.loop-i.invariant.1),
  rw (set_more c, back c) (All-push IsValue (take c.loop-i.i c.loop-i.out) c.get.result c.loop-i.invariant.2 c.get.ensures.range),
)

whole : (c : goal.After-loop-i) → take c.loop-i.i c.loop-i.out ≡ c.loop-i.out
whole c = take_all c.loop-i.i c.loop-i.out (omega (arith, c.loop-i-test.false, c.loop-i.invariant.0))

pub returns-clause-values : goal.returns-clause-values
returns-clause-values c =
    sym (whole c) ∙ c.loop-i.invariant.1
    ∙ take_all c.loop-i.i c.args.field.now.values (omega (arith, c.requires, c.loop-i-test.false))

pub returns-clause-in_range : goal.returns-clause-in_range
returns-clause-in_range c = rw (whole c) at c.loop-i.invariant.2
