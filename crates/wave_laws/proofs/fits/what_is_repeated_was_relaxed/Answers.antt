use Rattle.wave_laws.proofs.JudgementsStay.{repeated_relaxed}
use Rattle.wave_laws.proofs.fits.what_is_repeated_was_relaxed.Goals as goal

pub returns : goal.returns
returns g plan look number scheme w k stands repeated = repeated_relaxed plan look number w k scheme stands repeated
