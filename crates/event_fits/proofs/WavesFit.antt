-- A wave of the posted lengths fits in every state that what is kept stands for.
use Rattle.std.proofs.Common.{◌≡◌, ℕ, ◌<◌, ◌≤◌, false, true, length, Option, Some, None, sym, subst}
use Rattle.std.specs.Prelude.{All}
use Rattle.waveform.specs.IsWave.{IsWave, last_time}
use Rattle.cpl_plan.specs.PlanWords.{components_of}
use Rattle.cpl_plan.specs.declared.parts.PlanParts.{PlanParts}
use Rattle.cpl_plan.specs.declared.parts.Exchange.{Exchange}
use Rattle.wave_coupling.specs.Posts.{Wave}
use Rattle.core_sides.specs.CoreWords.{WaveState}
use Rattle.core_sides.specs.PostedMeshes.{values_in}
use Rattle.core_sides.specs.SidesStand.{AreStanding}
use Rattle.core_sides.specs.declared.sides.Sides.{Sides}
use Rattle.event_fits.specs.Shapes.{IsOfLengths}
use Rattle.event_fits.specs.Spans.{EndsBy, FitsAs}
use Rattle.event_fits.specs.declared.posts.Span.{Span}
use Rattle.event_fits.proofs.Checked.{FitsKept}
use Rattle.event_fits.proofs.InSpans.{of_exchange}

module _ (plan : PlanParts) (kept : Sides) (e : Exchange) (components values : ℕ) (many : components ≡ components_of plan e)
    (all : (state : WaveState) → AreStanding plan kept state → values ≡ values_in plan state e)
    (wave : Wave) (is : IsWave wave) (lengths : All (IsOfLengths components values) wave) (span : Option Span) where
  -- as initial data
  pub initial_fits : span ≡ None → length wave ≡ 1 → All (λ s. s.time ≡ 0) wave → FitsKept plan kept span e wave
  initial_fits none one start = λ state are. subst (λ (o : Option Span). FitsAs plan state o e wave) (sym none) (record {
    is_wave = is;
    one = one;
    start = start;
    lengths = of_exchange plan state e components values many (all state are) wave lengths;
  })

  -- in a span
  pub span_fits : (this : Span) → span ≡ Some this → All (λ s. this.start < s.time) wave → EndsBy this.makes (last_time wave) this.latest → length wave ≤ 1024
      → (e.substeps ≡ false → length wave ≡ 1) → (this.makes ≡ true → length wave ≡ 1) → FitsKept plan kept span e wave
  span_fits this some later end few without_substeps of_one_step = λ state are. subst (λ (o : Option Span). FitsAs plan state o e wave) (sym some) (record {
    is_wave = is;
    few = few;
    later = later;
    end = end;
    without_substeps = without_substeps;
    of_one_step = of_one_step;
    lengths = of_exchange plan state e components values many (all state are) wave lengths;
  })
