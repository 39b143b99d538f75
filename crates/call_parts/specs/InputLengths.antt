-- Which waves may be inputs of a turn: by their times, and by how many values they have. The project's own.
use Rattle.std.specs.Prelude.{◌≡◌, ◌⊎◌, ℕ, ◌*◌, List, All, length, slice_get, Some}
use Rattle.cpl_plan.specs.PlanWords.{components_of}
use Rattle.cpl_plan.specs.declared.parts.PlanParts.{PlanParts}
use Rattle.cpl_plan.specs.declared.parts.Exchange.{Exchange}
use Rattle.waveform.specs.IsWave.{IsWave, first_time, last_time}
use Rattle.waveform.specs.declared.sample.Sample.{Sample}
use Rattle.wave_coupling.specs.Known.{Known, points_of}
use Rattle.wave_coupling.specs.Posts.{Wave, received}
use Rattle.core_sides.specs.declared.event.Input.{Input}

-- so many components at each vertex, and so many values
pub record HasLengths (components values : ℕ) (sample : Sample) : Type 0 where
  pub wide : sample.field.components ≡ components
  pub long : length sample.field.values ≡ values

-- one sample, or from then to then
abbrev pub Spans : (start end : ℕ) → Wave → Type 0
Spans start end wave = (length wave ≡ 1) ⊎ ((first_time wave ≡ start) × (last_time wave ≡ end))

-- a wave of an exchange, over a window from its start to its end
pub record IsInputOf (plan : PlanParts) (part : ℕ) (known : Known) (window : ℕ × ℕ) (e : Exchange) (wave : Wave) : Type 0 where
  pub is_wave : IsWave wave
  pub spans : Spans window.0 window.1 wave
  pub lengths : All (HasLengths (components_of plan e) (components_of plan e * length (points_of plan part known e.mesh))) wave

-- one for each exchange that a participant receives, in order
pub record AreAllInputs (plan : PlanParts) (part : ℕ) (known : Known) (window : ℕ × ℕ) (inputs : List Input) : Type 0 where
  pub count : length inputs ≡ length (received plan part)
  pub each : (i x : ℕ) (e : Exchange) (input : Input) → slice_get (received plan part) i ≡ Some x → slice_get plan.exchanges x ≡ Some e
      → slice_get inputs i ≡ Some input → IsInputOf plan part known window e input.wave
