-- The relaxed iterate: what an accelerated scheme reads in the next iteration. From the coupling documentation's acceleration; where it is undefined is the project's own.
use Rattle.std.specs.Prelude.{Option, Some, None, Result, Ok, Err, List}
use Rattle.waveform.specs.declared.sample.Sample.{Sample}
use Rattle.acceleration.specs.Exchanged.{Exchanged}
use Rattle.acceleration.specs.Residual.{residual}
use Rattle.acceleration.specs.RelaxerState.{RelaxerState}
use Rattle.acceleration.specs.Factors.{factor_by, memory_by}
use Rattle.acceleration.specs.RelaxedWaves.{relaxed_waves}
use Rattle.acceleration.specs.Outside.{Location, located, first_outside}

-- the relaxed waves, and what the relaxer keeps after them
pub record Iterate : Type 0 where
  pub waves : List (List Sample)
  pub next : RelaxerState

-- the relaxed waves of an iteration, by its factor
abbrev pub waves_of : RelaxerState → List Exchanged → List (List Sample)
waves_of state exchanges = relaxed_waves (factor_by state.method state.memory (residual exchanges)) exchanges

-- undefined where a value is out of range
abbrev pub unless_outside : Option Location → Iterate → Result Iterate Location
unless_outside (Some location) iterate = Err location
unless_outside None iterate = Ok iterate

-- the relaxed iterate after a state
unfoldable pub relaxed_iterate : RelaxerState → List Exchanged → Result Iterate Location
relaxed_iterate state exchanges =
    let r = residual exchanges in
    let waves = waves_of state exchanges in
    unless_outside (first_outside (located waves))
    (record { waves = waves; next = record { method = state.method; memory = memory_by state.method state.memory r } })
