use Rattle.std.proofs.Common.{◌<◌, length, arith, ◌∙◌}
use Rattle.data_actions.specs.SummedValues.{made_at}
use Rattle.data_actions.proofs.Places.{written_more, left_more, values_more, made_next}
use Rattle.data_actions.proofs.sums.add_up.Goals as goal

pub loop-place-preserved : goal.loop-place-preserved
loop-place-preserved c =
    let done = c.loop-place.invariant.0 in
    let left = c.loop-place.invariant.1 in
    let here : c.loop-place.place < length c.loop-place.values = omega (arith, c.loop-place-test.true, c.loop-place.auto.values) in
    let next = made_next c.args.sums.now c.args.values.now c.loop-place.values c.loop-place.place c.requires.sums.apart done left in (
      written_more c.loop-place.values (made_at c.args.sums.now c.args.values.now) c.loop-place.place c.made_at.result here c.made_at.ensures.value
          (c.made_at.ensures.made ∙ next) done,
      left_more c.loop-place.values c.args.values.now c.loop-place.place _ left,
      values_more c.loop-place.values c.loop-place.place c.made_at.result c.made_at.ensures.value c.loop-place.invariant.2,
    )
