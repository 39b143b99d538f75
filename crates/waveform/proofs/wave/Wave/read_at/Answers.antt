use Rattle.std.proofs.Common.{◌≡◌, List, ap, sym, subst, ◌∙◌}
use Rattle.waveform.specs.declared.sample.Sample.{Sample}
use Rattle.waveform.specs.WaveValue.{read}
use Rattle.waveform.proofs.Places.{Rises, sampled, between}
use Rattle.waveform.proofs.wave.Wave.read_at.Goals as goal

-- what is written is what the definition reads
are_read : (c : goal.After-out-1) → c.write_at.new.out ≡ read c.args.self.now c.args.degree c.args.t
are_read c = c.write_at.ensures.values ∙ ap (λ (samples : List Sample). read samples c.args.degree c.args.t) (c.as_slice.ensures.value ∙ c.self.view_is)

rises : (c : goal.After-out-1) → Rises c.args.self.now
rises c = subst (λ (samples : List Sample). Rises samples) c.self.view_is c.self.invariant.rising

pub returns-clause-sampled : goal.returns-clause-sampled
returns-clause-sampled c = λ i found. sampled c.args.self.now c.args.degree c.args.t i c.write_at.new.out (rises c) (are_read c) found

pub returns-clause-between : goal.returns-clause-between
returns-clause-between c = λ i k inside within after before.
    between c.args.self.now c.args.degree c.args.t i k c.write_at.new.out (rises c)
    (λ j d here. c.requires.len j d here ∙ sym c.write_at.auto.out)
    (are_read c) inside within after before
