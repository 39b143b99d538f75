-- The inputs of all exchanges that a participant receives.
use Rattle.std.proofs.Common.{◌≡◌, ℕ, Bool, nat_eq, length, map, ap, sym, ◌∙◌}
use Rattle.cpl_plan.specs.PlanWords.{passes}
use Rattle.cpl_plan.specs.declared.parts.PlanParts.{PlanParts}
use Rattle.coupled_loop.specs.Given.{Look}
use Rattle.wave_coupling.specs.Posts.{Post, received}
use Rattle.wave_coupling.specs.InputWave.{InputWave, input_wave}
use Rattle.wave_coupling.specs.Coupling.{inputs_of, start_of}
use Rattle.core_sides.specs.declared.event.Input.{Input}
use Rattle.core_takes.specs.Numbered.{input_told, numbered_inputs}
use Rattle.core_takes.proofs.Rows.{row, map-zip_map}

module _ (plan : PlanParts) (look : Look Post) (part w k : ℕ) where
  -- the input of an exchange, by when the window starts
  abbrev pub input_at : (start x : ℕ) → Input
  input_at start x = input_told x (input_wave plan look x w start k)

  abbrev pub is_received : (x : ℕ) → Bool
  is_received x = passes plan.exchanges x (λ e. nat_eq e.to part)

  pub all_inputs : (start n : ℕ) → start ≡ start_of plan look w → n ≡ length plan.exchanges
      → row (input_at start) is_received n ≡ numbered_inputs plan part (inputs_of plan look part w k)
  all_inputs start n same all =
      ap (λ (m : ℕ). row (input_at start) is_received m) all ∙ ap (λ (t : ℕ). map (input_at t) (received plan part)) same
      ∙ sym (map-zip_map {B = InputWave} {C = Input} (λ x input. input_told x input) (λ x. input_wave plan look x w (start_of plan look w) k) (received plan part))
