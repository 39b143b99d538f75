use Rattle.acceleration.proofs.RelaxationLaws.{relaxed-same, relaxed_wave-same}
use Rattle.acceleration.proofs.laws.fixed_point_stays.Goals as goal

pub returns-clause-value : goal.returns-clause-value
returns-clause-value c = λ x factor. relaxed-same x factor

pub returns-clause-wave : goal.returns-clause-wave
returns-clause-wave c = λ e factor fixed. relaxed_wave-same e factor fixed
