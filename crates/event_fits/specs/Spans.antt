-- The span of a window for a participant, and waves that fit in it. The project's own; what fits is said in core_sides.
use Rattle.std.specs.Prelude.{◌≡◌, ℕ, ◌<◌, ◌≤◌, Bool, true, false, All, length, Option, Some, None}
use Rattle.waveform.specs.IsWave.{IsWave, last_time}
use Rattle.cpl_plan.specs.declared.parts.PlanParts.{PlanParts}
use Rattle.cpl_plan.specs.declared.parts.Exchange.{Exchange}
use Rattle.coupled_loop.specs.CoreState.{look_in}
use Rattle.wave_coupling.specs.Posts.{Wave}
use Rattle.wave_coupling.specs.Coupling.{makes_windows, start_of, latest_of}
use Rattle.core_sides.specs.CoreWords.{WaveState}
use Rattle.core_sides.specs.FittingPosts.{IsInitialWave, IsOfExchange}
use Rattle.event_fits.specs.declared.posts.Span.{Span}

-- the last sample stands at the end, or not after it where a step makes the window
abbrev pub EndsBy : (makes : Bool) → (last latest : ℕ) → Type 0
EndsBy false last latest = last ≡ latest
EndsBy true last latest = last ≤ latest

pub record IsSpanOf (plan : PlanParts) (state : WaveState) (part w : ℕ) (span : Span) : Type 0 where
  pub start_is : span.start ≡ start_of plan (look_in state) w
  pub latest_is : span.latest ≡ latest_of plan (look_in state) part w
  pub makes_is : span.makes ≡ makes_windows plan part

module _ (plan : PlanParts) (state : WaveState) where
  pub record IsInSpan (span : Span) (e : Exchange) (wave : Wave) : Type 0 where
    pub is_wave : IsWave wave
    pub few : length wave ≤ 1024
    pub later : All (λ s. span.start < s.time) wave
    pub end : EndsBy span.makes (last_time wave) span.latest
    pub without_substeps : e.substeps ≡ false → length wave ≡ 1
    pub of_one_step : span.makes ≡ true → length wave ≡ 1
    pub lengths : All (IsOfExchange plan state e) wave

  -- as initial data, or in a span
  abbrev pub FitsAs : Option Span → Exchange → Wave → Type 0
  FitsAs None e wave = IsInitialWave plan state e wave
  FitsAs (Some span) e wave = IsInSpan span e wave
