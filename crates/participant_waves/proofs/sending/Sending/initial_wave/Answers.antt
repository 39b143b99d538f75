use Rattle.std.proofs.Common.{◌≡◌, [], ◌∷◌, slice_get, Ok, sym, subst}
use Rattle.std.specs.Result.{IfOk, IfErr}
use Rattle.waveform.specs.declared.field.Field.{Field}
use Rattle.participant_tables.specs.WriteKept.{field_of}
use Rattle.participant_waves.specs.Passages.{CanPass}
use Rattle.participant_waves.specs.SentWaves.{initial_wave_sent, no_field}
use Rattle.participant_waves.specs.Refusals.{IsNoPost}
use Rattle.participant_waves.proofs.Told.{told_or, told_holds}
use Rattle.participant_waves.proofs.sending.Sending.initial_wave.Goals as goal

pub wave_of_field-requires : goal.wave_of_field-requires
wave_of_field-requires c =
    told_holds field_of (λ (field : Field). CanPass c.args.self.now.map (record { time = 0; field = field } ∷ [])) (slice_get c.args.writes.now c.args.self.now.entry) c.in_ok-field.field
    c.in_ok-field.ensures c.requires.field

pub returns-clause-posted : goal.returns-clause-posted
returns-clause-posted c =
    let told = told_or field_of (slice_get c.args.writes.now c.args.self.now.entry) no_field c.in_ok-field.field c.in_ok-field.ensures in
    subst (λ (field : Field). IfOk c.wave_of_field.result (λ wave. initial_wave_sent c.args.part c.args.self.now field ≡ Ok wave)) (sym told) c.wave_of_field.ensures.posted

pub returns-clause-refused : goal.returns-clause-refused
returns-clause-refused c =
    let told = told_or field_of (slice_get c.args.writes.now c.args.self.now.entry) no_field c.in_ok-field.field c.in_ok-field.ensures in
    subst (λ (field : Field). IfErr c.wave_of_field.result (IsNoPost (initial_wave_sent c.args.part c.args.self.now field))) (sym told) c.wave_of_field.ensures.refused
