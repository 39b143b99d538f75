-- What is read in a turn by what is kept of the exchanges that are received: each input, mapped where its exchange has a read mapping. After the coupling documentation's read mappings.
use Rattle.std.specs.Prelude.{ℕ, List, map, zip, Option, Some, Result, Ok, Err}
use Rattle.cpl_plan.specs.declared.words.Fault.{Fault}
use Rattle.cpl_plan.specs.declared.words.Fault.TheVariants.{ReadMap}
use Rattle.core_sides.specs.declared.event.Input.{Input}
use Rattle.wave_coupling.specs.Posts.{Wave}
use Rattle.wave_coupling.specs.InputWave.{InputWave}
use Rattle.wave_coupling.specs.Mapped.{OutOfRange, all_or_first}
use Rattle.participant_words.specs.Begun.{input_wave_of}
use Rattle.participant_waves.specs.Passages.{through}
use Rattle.participant_waves.specs.TakingKept.{TakingKept}

-- the inputs with other waves, one for each
abbrev pub with_waves : List Input → List Wave → List InputWave
with_waves inputs waves = map (λ at. record (input_wave_of at.0) { wave = at.1 }) (zip inputs waves)

-- a wave as it is read, or the fault of its mapping
abbrev pub taken_or_fault : (part w k x : ℕ) → Result Wave OutOfRange → Result Wave (Option Fault)
taken_or_fault part w k x (Ok wave) = Ok wave
taken_or_fault part w k x (Err at) = Err (Some (ReadMap part w k x at.time at.vertex at.component))

abbrev pub wave_taken : (part w k : ℕ) → TakingKept × Input → Result Wave (Option Fault)
wave_taken part w k at = taken_or_fault part w k at.0.exchange (through at.0.map at.1.wave)

-- what is read in a turn
abbrev pub waves_taken : (part w k : ℕ) → List TakingKept → List Input → Result (List Wave) (Option Fault)
waves_taken part w k takings inputs = all_or_first (map (wave_taken part w k) (zip takings inputs))
