use Rattle.std.proofs.Common.{ℤ, subst, ◌∙◌, arith}
use Rattle.std.proofs.lemmas.Option.{get_or_from_slice_get}
use Rattle.fixed_num.specs.Numbers.{IsValue}
use Rattle.event_fits.proofs.Samples.{all_next, all_of}
use Rattle.event_fits.proofs.waves.values_in.Goals as goal

pub loop-i-preserved : goal.loop-i-preserved
loop-i-preserved c = record {
  counted = omega arith;
  in_range = all_next (λ v. IsValue v) c.args.values.now c.loop-i.i (omega arith) c.loop-i.invariant.in_range
      (λ v is. subst (λ (u : ℤ). IsValue u)
      (c.get-units.ensures.units ∙ c.index-values-i.is ∙ get_or_from_slice_get c.args.values.now c.loop-i.i v c.index-values-i.result is) c.get-units.ensures.range);
}

pub returns-clause-in_range : goal.returns-clause-in_range
returns-clause-in_range c = all_of (λ v. IsValue v) c.args.values.now c.loop-i.i (omega arith) c.loop-i.invariant.in_range
