use Rattle.std.proofs.Common.{◌≡◌, ◌<◌, pos, length, get_or, arith, sym, ◌∙◌}
use mir.Syntax.{w64}
use mir.Val.{to_z, of_z}
use Rattle.std.proofs.lemmas.Int.{to_z-of_z}
use Rattle.std.proofs.lemmas.List.{take_all, take_more, take_more_set}
use Rattle.waveform.proofs.Lines.{units_at}
use Rattle.wave_reading.specs.Places.{line_values}
use Rattle.wave_reading.proofs.LineValues.{line_values-at, length-line_values}
use Rattle.wave_reading.proofs.reading.write_line.Goals as goal
use Rattle.wave_reading.proofs.reading.write_line.Goals.{After-component_between}

in_first : (c : After-component_between) → c.loop-i.i < length c.args.first.now
in_first c = omega (arith, c.requires, c.loop-i-test.true, c.loop-i.auto.out)

in_last : (c : After-component_between) → c.loop-i.i < length c.args.last.now
in_last c = omega (arith, c.requires, c.loop-i-test.true, c.loop-i.auto.out)

first_is : (c : After-component_between) → to_z w64 (of_z w64 c.get.result) ≡ get_or c.args.first.now c.loop-i.i (pos 0)
first_is c = units_at c.args.first.now c.loop-i.i c.get.result c.index-first-i.result (record { sfits = c.get.type_inv }) c.get.ensures.units c.index-first-i.is (in_first c)

last_is : (c : After-component_between) → to_z w64 (of_z w64 c.get-in-loop-i.result) ≡ get_or c.args.last.now c.loop-i.i (pos 0)
last_is c =
    units_at c.args.last.now c.loop-i.i c.get-in-loop-i.result c.index-last-i.result (record { sfits = c.get-in-loop-i.type_inv }) c.get-in-loop-i.ensures.units c.index-last-i.is (in_last c)

-- the component that is written
written : (c : After-component_between) → to_z w64 (of_z w64 c.component_between.result) ≡ get_or (line_values c.args.span.start c.args.span.end c.args.span.t c.args.first.now c.args.last.now) c.loop-i.i (pos 0)
written c =
    to_z-of_z w64 c.component_between.result (record { sfits = c.component_between.type_inv })
    ∙ c.component_between.ensures.component
    ∙ rw (first_is c, last_is c) (sym (line_values-at c.args.span.start c.args.span.end c.args.span.t c.loop-i.i c.args.first.now c.args.last.now (in_first c) (in_last c)))

pub loop-i-preserved : goal.loop-i-preserved
loop-i-preserved c =
    cc (
      take_more_set c.loop-i.out c.loop-i.i (to_z w64 (of_z w64 c.component_between.result)) (omega (arith, c.loop-i-test.true, c.loop-i.auto.out)),
      take_more (line_values c.args.span.start c.args.span.end c.args.span.t c.args.first.now c.args.last.now) c.loop-i.i (pos 0)
          (omega (arith, in_first c, in_last c, length-line_values c.args.span.start c.args.span.end c.args.span.t c.args.first.now c.args.last.now)),
      written c,
      c.loop-i.invariant,
    )

pub returns : goal.returns
returns c =
    sym (take_all c.loop-i.i c.loop-i.out (omega (arith, c.loop-i-test.false, c.loop-i.auto.out)))
    ∙ c.loop-i.invariant
    ∙ take_all c.loop-i.i (line_values c.args.span.start c.args.span.end c.args.span.t c.args.first.now c.args.last.now)
    (omega (arith, length-line_values c.args.span.start c.args.span.end c.args.span.t c.args.first.now c.args.last.now, c.requires, c.loop-i-test.false, c.loop-i.auto.out))
