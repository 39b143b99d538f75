use Rattle.std.proofs.Common.{◌≡◌, length, ap, sym, ◌∙◌, arith}
use Rattle.waveform.specs.declared.field.Field.{Field}
use Rattle.event_fits.proofs.Samples.{all_next, all_of, mapped_is}
use Rattle.call_parts.specs.InputLengths.{HasLengths}
use Rattle.call_parts.proofs.waves.has_lengths.Goals as goal

pub loop-i-preserved : goal.loop-i-preserved
loop-i-preserved c =
    all_next (HasLengths c.args.lengths.components c.args.lengths.values) c.args.wave.now c.loop-i.i (omega arith) c.loop-i.invariant
    (λ s is.
    let same : s.field ≡ c.field-field.result.now = mapped_is (λ s. s.field) c.args.wave.now c.loop-i.i s c.field-field.result.now is c.field-field.ensures in
    record {
      wide = ap (λ (f : Field). f.components) same ∙ c.if-field-lengths.false;
      long = ap (λ (f : Field). length f.values) same ∙ sym c.len.ensures ∙ c.if-len-lengths.false;
    })

pub returns-clause-lengths : goal.returns-clause-lengths
returns-clause-lengths c = λ yes. all_of (HasLengths c.args.lengths.components c.args.lengths.values) c.args.wave.now c.loop-i.i (omega arith) c.loop-i.invariant
