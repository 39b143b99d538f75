use Rattle.std.proofs.Common.{◌≡◌, ◌≤◌, List, [], length, slice_get, Ok, sym, subst}
use Rattle.std.specs.Result.{IfOk, IfErr}
use Rattle.waveform.specs.declared.sample.Sample.{Sample}
use Rattle.participant_tables.specs.WriteKept.{WriteKept}
use Rattle.participant_waves.specs.Passages.{CanPass}
use Rattle.participant_waves.specs.SentWaves.{wave_sent}
use Rattle.participant_waves.specs.Refusals.{IsNoPost}
use Rattle.participant_waves.proofs.Told.{told_or, told_holds}
use Rattle.participant_waves.proofs.sending.Sending.turn_wave.Goals as goal

pub wave_of_samples-requires-clause-some : goal.wave_of_samples-requires-clause-some
wave_of_samples-requires-clause-some c =
    told_holds (λ (e : WriteKept). e.samples) (λ samples. 1 ≤ length samples) (slice_get c.args.writes.now c.args.self.now.entry) c.samples.result.now c.samples.ensures.samples c.requires.some

pub wave_of_samples-requires-clause-fields : goal.wave_of_samples-requires-clause-fields
wave_of_samples-requires-clause-fields c =
    told_holds (λ (e : WriteKept). e.samples) (CanPass c.args.self.now.map) (slice_get c.args.writes.now c.args.self.now.entry) c.samples.result.now c.samples.ensures.samples c.requires.fields

pub returns-clause-posted : goal.returns-clause-posted
returns-clause-posted c =
    let told = told_or (λ (e : WriteKept). e.samples) (slice_get c.args.writes.now c.args.self.now.entry) [] c.samples.result.now c.samples.ensures.samples in
    subst (λ (samples : List Sample). IfOk c.wave_of_samples.result (λ wave. wave_sent c.args.part c.args.window c.args.iteration c.args.self.now samples ≡ Ok wave)) (sym told)
    c.wave_of_samples.ensures.posted

pub returns-clause-refused : goal.returns-clause-refused
returns-clause-refused c =
    let told = told_or (λ (e : WriteKept). e.samples) (slice_get c.args.writes.now c.args.self.now.entry) [] c.samples.result.now c.samples.ensures.samples in
    subst (λ (samples : List Sample). IfErr c.wave_of_samples.result (IsNoPost (wave_sent c.args.part c.args.window c.args.iteration c.args.self.now samples))) (sym told)
    c.wave_of_samples.ensures.refused
