use Rattle.std.proofs.Common.{◌≡◌, length, refl, ap, sym, subst, ◌∙◌}
use Rattle.std.proofs.lemmas.Result.{err_from_is_err_and}
use Rattle.std.proofs.lemmas.Option.{same_Some}
use Rattle.waveform.specs.declared.sample.Sample.{Sample}
use Rattle.waveform.specs.declared.field.Field.{Field}
use Rattle.waveform.specs.WaveValue.{read}
use Rattle.acceleration.specs.Exchanged.{exchange_of}
use Rattle.acceleration.specs.Causes.{Tells}
use Rattle.acceleration.specs.Outside.{first_outside, located_sample}
use Rattle.acceleration.specs.RelaxedWaves.{relaxed_values}
use Rattle.acceleration.proofs.Widths.{time_at, field_at, covered_at, width_of_taken, width_of_posted}
use Rattle.acceleration.proofs.Fronts.{sample_made, like_all}
use Rattle.acceleration.proofs.waves.relaxed_sample.Goals as goal

pub relaxed_field-requires-clause-time : goal.relaxed_field-requires-clause-time
relaxed_field-requires-clause-time c =
    covered_at c.args.step.now.degree c.args.read.now c.args.posted.now c.args.i c.time-time.result c.requires.exchange.covered c.requires.inside
    (time_at c.args.posted.now c.args.i c.time-time.result c.time-time.ensures)

pub relaxed_field-requires-clause-len : goal.relaxed_field-requires-clause-len
relaxed_field-requires-clause-len c = λ k d inside.
    width_of_taken c.args.step.now.degree c.args.read.now c.args.posted.now c.requires.wave.least c.requires.exchange.alike k d inside ∙ sym c.requires.room

pub relaxed_field-requires-clause-room : goal.relaxed_field-requires-clause-room
relaxed_field-requires-clause-room c =
    ap (λ (f : Field). length f.values) (sym (field_at c.args.posted.now c.args.i c.field.result.now c.field.ensures))
    ∙ width_of_posted c.args.posted.now c.args.i c.requires.wave c.requires.inside ∙ sym c.requires.room

pub returns-in_err-field-clause-outside : goal.returns-in_err-field-clause-outside
returns-in_err-field-clause-outside c = λ sample found.
    let e = exchange_of c.args.step.now.degree c.args.read.now c.args.posted.now in
    let f = c.args.step.now.factor in
    let made : Field = record { components = c.field.result.now.components; values = relaxed_values f (read c.args.read.now c.args.step.now.degree c.time-time.result) c.field.result.now.values } in
    let is : record { time = c.time-time.result; field = made } ≡ sample =
    same_Some _ _ (sym (sample_made f e c.args.i c.time-time.result c.field.result.now made c.requires.inside c.time-time.ensures c.field.ensures refl refl) ∙ found) in
    let p = err_from_is_err_and c.from_residual.result c.from_residual.ensures.1 in
    rw (p.1, p.2)
    (subst (λ (s : Sample). Tells (first_outside (located_sample c.args.step.now.place s)) c.in_err-field.field-0.0) is c.in_err-field.ensures.outside)

pub returns-clause-sample : goal.returns-clause-sample
returns-clause-sample c =
    sample_made c.args.step.now.factor (exchange_of c.args.step.now.degree c.args.read.now c.args.posted.now) c.args.i c.time-time.result c.field.result.now c.in_ok-field.field
    c.requires.inside c.time-time.ensures c.field.ensures c.in_ok-field.ensures.alike.components c.in_ok-field.ensures.values

pub returns-clause-alike : goal.returns-clause-alike
returns-clause-alike c =
    like_all c.args.posted.now c.args.i c.field.result.now c.in_ok-field.field c.requires.wave c.requires.inside c.field.ensures c.in_ok-field.ensures.alike
