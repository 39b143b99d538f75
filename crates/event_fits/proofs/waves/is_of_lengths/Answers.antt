use Rattle.std.proofs.Common.{◌≡◌, true, length, ap, sym, subst, ◌∙◌, arith}
use Rattle.std.specs.Prelude.{All}
use Rattle.fixed_num.specs.Numbers.{IsValue}
use Rattle.waveform.specs.declared.field.Field.{Field}
use Rattle.event_fits.specs.Shapes.{IsOfLengths}
use Rattle.event_fits.proofs.Samples.{all_next, all_of, mapped_is}
use Rattle.event_fits.proofs.waves.is_of_lengths.Goals as goal

pub loop-i-preserved : goal.loop-i-preserved
loop-i-preserved c =
    let yes : c.has_lengths.result ≡ true = cc in
    all_next (IsOfLengths c.args.lengths.components c.args.lengths.values) c.args.wave.now c.loop-i.i (omega arith) c.loop-i.invariant
    (λ s is.
    let same : s.field ≡ c.field.result.now = mapped_is (λ s. s.field) c.args.wave.now c.loop-i.i s c.field.result.now is c.field.ensures in
    record {
      components_are = ap (λ (f : Field). f.components) same ∙ c.has_lengths.ensures.components yes;
      values_are = ap (λ (f : Field). length f.values) same ∙ c.has_lengths.ensures.values yes;
      in_range = subst (λ (f : Field). All IsValue f.values) (sym same) c.has_lengths.ensures.in_range;
    })

pub returns-clause-lengths : goal.returns-clause-lengths
returns-clause-lengths c = λ yes. all_of (IsOfLengths c.args.lengths.components c.args.lengths.values) c.args.wave.now c.loop-i.i (omega arith) c.loop-i.invariant
