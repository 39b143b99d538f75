use Rattle.std.proofs.Common.{◌≡◌, ℕ, List, [], ◌∷◌, map, refl}
use Rattle.waveform.specs.declared.sample.Sample.{Sample}
use Rattle.acceleration.specs.RelaxedWaves.{relaxed_sample}
use Rattle.acceleration.proofs.laws.relaxed_waves_keep_shape.Goals as goal

-- what each sample keeps, all keep
kept_by_all : (show : Sample → ℕ) (made : Sample → Sample) (samples : List Sample) → ((s : Sample) → show (made s) ≡ show s) → map show (map made samples) ≡ map show samples
kept_by_all show made [] kept = refl
kept_by_all show made (s ∷ samples) kept = cc (kept s, kept_by_all show made samples kept)

pub returns-clause-times : goal.returns-clause-times
returns-clause-times c = λ e factor. kept_by_all (λ (s : Sample). s.time) (relaxed_sample factor e) e.posted (λ s. refl)

pub returns-clause-components : goal.returns-clause-components
returns-clause-components c = λ e factor. kept_by_all (λ (s : Sample). s.field.components) (relaxed_sample factor e) e.posted (λ s. refl)
