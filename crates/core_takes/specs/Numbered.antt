-- The inputs of a turn with the numbers of their exchanges, as a core replies. The project's own.
use Rattle.std.specs.Prelude.{ℕ, List, map, zip}
use Rattle.cpl_plan.specs.declared.parts.PlanParts.{PlanParts}
use Rattle.wave_coupling.specs.Posts.{received}
use Rattle.wave_coupling.specs.InputWave.{InputWave}
use Rattle.wave_coupling.specs.Solve.{Inputs}
use Rattle.core_sides.specs.declared.event.Input.{Input}

abbrev pub input_told : (x : ℕ) → InputWave → Input
input_told x input = record { exchange = x; source_window = input.source_window; source_iteration = input.source_iteration; wave = input.wave }

-- one for each exchange that a participant receives, in order
abbrev pub numbered_inputs : PlanParts → (part : ℕ) → Inputs → List Input
numbered_inputs plan part inputs = map (λ at. input_told at.0 at.1) (zip (received plan part) inputs.waves)
