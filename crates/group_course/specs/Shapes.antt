-- The shape of what is posted: values for all vertices of the exchange's mesh, at times within the window, the last at its end. From the coupling documentation's meshes and substeps; the limits are the project's own.
use Rattle.std.specs.Prelude.{◌≡◌, ℕ, ◌-◌, ◌*◌, ◌^◌, ◌<◌, ◌≤◌, List, length, slice_get, Some, All}
use Rattle.cpl_plan.specs.PlanWords.{components_of}
use Rattle.cpl_plan.specs.declared.parts.PlanParts.{PlanParts}
use Rattle.cpl_plan.specs.declared.parts.Exchange.{Exchange}
use Rattle.waveform.specs.declared.field.Field.{Field}
use Rattle.waveform.specs.declared.sample.Sample.{Sample}
use Rattle.waveform.specs.IsWave.{last_time}
use Rattle.coupled_loop.specs.Given.{Look}
use Rattle.wave_coupling.specs.Posts.{Post}
use Rattle.wave_coupling.specs.InputWave.{completed, posted}

-- so many components, on so many vertices
pub record HasShape (components vertices : ℕ) (field : Field) : Type 0 where
  pub each : field.components ≡ components
  pub values : length field.values ≡ components * vertices

-- the samples of a turn, from after its window's start up to its end
pub record IsTurnWave (components vertices start end : ℕ) (wave : List Sample) : Type 0 where
  pub some : 1 ≤ length wave
  pub few : length wave ≤ 1024
  pub shape : All (λ s. HasShape components vertices s.field) wave
  pub after : All (λ s. start < s.time) wave
  pub within : All (λ s. s.time ≤ end) wave
  pub last : last_time wave ≡ end

module _ (plan : PlanParts) (look : Look Post) where
  -- what was given of an exchange for the end of the window before w, and in the iterations k - 1 and k
  pub record HasTurnWaves (vertices : ℕ → ℕ) (x : ℕ) (e : Exchange) (w start end k : ℕ) : Type 0 where
    pub some : 1 ≤ length (completed plan look e x (w - 1)).wave
    pub before : All (λ s. HasShape (components_of plan e) (vertices e.mesh) s.field) (completed plan look e x (w - 1)).wave
    pub newest : IsTurnWave (components_of plan e) (vertices e.mesh) start end (posted plan look e x w k).wave
    pub last : 2 ≤ k → IsTurnWave (components_of plan e) (vertices e.mesh) start end (posted plan look e x w (k - 1)).wave

  -- of each exchange of a scheme, with so many vertices of each mesh, at most 10,000
  pub record AreShaped (scheme w start k : ℕ) : Type 0 where
    pub vertices : (mesh : ℕ) → ℕ
    pub few : (mesh : ℕ) → vertices mesh ≤ 10 ^ 4
    pub end : ℕ
    pub waves : (x : ℕ) (e : Exchange) → slice_get plan.exchanges x ≡ Some e → e.scheme ≡ scheme → HasTurnWaves vertices x e w start end k
