use Rattle.acceleration.proofs.RelaxationLaws.{relaxed-one, relaxed_wave-one}
use Rattle.acceleration.proofs.laws.one_passes_on.Goals as goal

pub returns-clause-value : goal.returns-clause-value
returns-clause-value c = λ x y. relaxed-one x y

pub returns-clause-wave : goal.returns-clause-wave
returns-clause-wave c = λ e many. relaxed_wave-one e many
