-- What a participant may post: a wave for each exchange that it sends, of the exchange's lengths, at time 0 or within the window. After the coupling documentation, where data are written at times of a window, the last at its end; first-participant windows end with the step.
use Rattle.std.specs.Prelude.{◌≡◌, ℕ, ◌<◌, ◌≤◌, Bool, true, false, length, All, slice_get, Some}
use Rattle.fixed_num.specs.Numbers.{IsValue}
use Rattle.waveform.specs.IsWave.{IsWave, last_time}
use Rattle.waveform.specs.declared.sample.Sample.{Sample}
use Rattle.cpl_plan.specs.PlanWords.{components_of}
use Rattle.cpl_plan.specs.declared.parts.PlanParts.{PlanParts}
use Rattle.cpl_plan.specs.declared.parts.Exchange.{Exchange}
use Rattle.coupled_loop.specs.CoreState.{look_in}
use Rattle.wave_coupling.specs.Posts.{Wave, Post, sent, newest_time}
use Rattle.wave_coupling.specs.Coupling.{makes_windows, start_of, latest_of}
use Rattle.core_sides.specs.CoreWords.{WaveState}
use Rattle.core_sides.specs.PostedMeshes.{values_in}

-- one wave for each exchange that the participant sends, in order, each of which fits
pub record AreWaves (plan : PlanParts) (part : ℕ) (Fits : Exchange → Wave → Type 0) (post : Post) : Type 0 where
  pub count : length post ≡ length (sent plan part)
  pub each : (i x : ℕ) (e : Exchange) (wave : Wave) → slice_get (sent plan part) i ≡ Some x → slice_get plan.exchanges x ≡ Some e
      → slice_get post i ≡ Some wave → Fits e wave

module _ (plan : PlanParts) (sides : WaveState) where
  -- a sample has the exchange's lengths, and each number is a Value
  pub record IsOfExchange (e : Exchange) (sample : Sample) : Type 0 where
    pub components : sample.field.components ≡ components_of plan e
    pub values : length sample.field.values ≡ values_in plan sides e
    pub in_range : All IsValue sample.field.values

  -- initial data: one sample, at time 0
  pub record IsInitialWave (e : Exchange) (wave : Wave) : Type 0 where
    pub is_wave : IsWave wave
    pub one : length wave ≡ 1
    pub start : All (λ s. s.time ≡ 0) wave
    pub lengths : All (IsOfExchange e) wave

  -- the last sample stands at the window's end, which the step of a participant that makes windows chooses
  abbrev pub EndsAs : (makes : Bool) → (last latest : ℕ) → Type 0
  EndsAs false last latest = last ≡ latest
  EndsAs true last latest = last ≤ latest

  -- data of a window: at most 1,024 samples, all after its start, the last at its end; that one alone without substeps, and of a window that a step makes
  pub record IsWindowWave (part w : ℕ) (e : Exchange) (wave : Wave) : Type 0 where
    pub is_wave : IsWave wave
    pub few : length wave ≤ 1024
    pub later : All (λ s. start_of plan (look_in sides) w < s.time) wave
    pub end : EndsAs (makes_windows plan part) (last_time wave) (latest_of plan (look_in sides) part w)
    pub without_substeps : e.substeps ≡ false → length wave ≡ 1
    pub of_one_step : makes_windows plan part ≡ true → length wave ≡ 1
    pub lengths : All (IsOfExchange e) wave

  abbrev pub IsInitialPost : (part : ℕ) → Post → Type 0
  IsInitialPost part post = AreWaves plan part IsInitialWave post

  pub record IsWindowPost (part w : ℕ) (post : Post) : Type 0 where
    pub waves : AreWaves plan part (IsWindowWave part w) post
    -- all of them end at one time
    pub together : All (λ wave. last_time wave ≡ newest_time post) post
