-- What stands in the span of a window is what may be posted in it.
use Rattle.std.proofs.Common.{◌≡◌, ℕ, ◌<◌, Bool, true, false, subst, ◌∙◌}
use Rattle.std.specs.Prelude.{All, Some}
use Rattle.std.proofs.lemmas.List.Elements.{All-weaker}
use Rattle.waveform.specs.IsWave.{last_time}
use Rattle.cpl_plan.specs.PlanWords.{components_of}
use Rattle.cpl_plan.specs.declared.parts.PlanParts.{PlanParts}
use Rattle.cpl_plan.specs.declared.parts.Exchange.{Exchange}
use Rattle.coupled_loop.specs.CoreState.{look_in}
use Rattle.wave_coupling.specs.Posts.{Wave, Post, newest_time}
use Rattle.wave_coupling.specs.Coupling.{makes_windows, latest_of}
use Rattle.core_sides.specs.CoreWords.{WaveState}
use Rattle.core_sides.specs.PostedMeshes.{values_in}
use Rattle.core_sides.specs.FittingPosts.{AreWaves, EndsAs, IsOfExchange, IsWindowWave, IsWindowPost}
use Rattle.event_fits.specs.Shapes.{IsOfLengths}
use Rattle.event_fits.specs.Spans.{EndsBy, FitsAs, IsSpanOf}
use Rattle.event_fits.specs.declared.posts.Span.{Span}

module _ (plan : PlanParts) (state : WaveState) where
  -- samples of an exchange's lengths
  pub of_exchange : (e : Exchange) (components values : ℕ) → components ≡ components_of plan e → values ≡ values_in plan state e
      → (wave : Wave) → All (IsOfLengths components values) wave → All (IsOfExchange plan state e) wave
  of_exchange e components values many all wave lengths =
      All-weaker (IsOfLengths components values) (IsOfExchange plan state e)
      (λ s is. record { components = is.components_are ∙ many; values = is.values_are ∙ all; in_range = is.in_range }) wave lengths

  ends_as : (makes : Bool) (last latest : ℕ) → EndsBy makes last latest → EndsAs plan state makes last latest
  ends_as false last latest is = is
  ends_as true last latest is = is

  module _ (part w : ℕ) (span : Span) (is : IsSpanOf plan state part w span) where
    window_wave : (e : Exchange) (wave : Wave) → FitsAs plan state (Some span) e wave → IsWindowWave plan state part w e wave
    window_wave e wave fits = record {
      is_wave = fits.is_wave;
      few = fits.few;
      later = subst (λ (n : ℕ). All (λ s. n < s.time) wave) is.start_is fits.later;
      end = ends_as (makes_windows plan part) (last_time wave) (latest_of plan (look_in state) part w)
          (subst (λ (n : ℕ). EndsBy (makes_windows plan part) (last_time wave) n) is.latest_is
          (subst (λ (b : Bool). EndsBy b (last_time wave) span.latest) is.makes_is fits.end));
      without_substeps = fits.without_substeps;
      of_one_step = λ makes. fits.of_one_step (is.makes_is ∙ makes);
      lengths = fits.lengths;
    }

    pub window_post : (post : Post) → AreWaves plan part (FitsAs plan state (Some span)) post → All (λ wave. last_time wave ≡ newest_time post) post
        → IsWindowPost plan state part w post
    window_post post are together = record {
      waves = record { count = are.count; each = λ i x e wave sends is_e at. window_wave e wave (are.each i x e wave sends is_e at) };
      together = together;
    }
