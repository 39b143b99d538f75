-- A window's start and end, as they are kept, are those of each state for which that stands.
use Rattle.std.proofs.Common.{◌≡◌, ℕ, ◌≤◌, Bool, true, false, if◌then◌else◌, Option, Some, None, sym, ap, ◌∙◌}
use Rattle.std.specs.Prelude.{IfSome}
use Rattle.std.specs.Option.{option_map_or}
use Rattle.cpl_plan.specs.Windows.{latest_end, window_start, window_end}
use Rattle.cpl_plan.specs.declared.parts.PlanParts.{PlanParts}
use Rattle.coupled_loop.specs.CoreState.{look_in}
use Rattle.coupled_loop.specs.PlanFrames.{window_maker, ends_made}
use Rattle.wave_coupling.specs.Posts.{newest_time}
use Rattle.wave_coupling.specs.Coupling.{makes_windows, start_of, latest_of}
use Rattle.core_sides.specs.CoreWords.{WaveState}
use Rattle.core_sides.specs.SidesStand.{AreStanding}
use Rattle.core_sides.specs.declared.sides.Sides.{Sides}
use Rattle.core_sides.proofs.Telling.{starts_as, window_end_is}
use Rattle.event_fits.specs.Spans.{IsSpanOf}
use Rattle.event_fits.specs.declared.posts.Span.{Span}

module _ (plan : PlanParts) (kept : Sides) (part w start : ℕ) (starts : window_start plan kept.ends.items w ≡ Some start) where
  start_is : (state : WaveState) → AreStanding plan kept state → start ≡ start_of plan (look_in state) w
  start_is state are = sym (ap (λ (o : Option ℕ). option_map_or (λ s. s) o 0) (starts_as plan kept state are w ∙ starts))

  latest_so : (state : WaveState) (makes : Bool) → makes_windows plan part ≡ makes
      → latest_of plan (look_in state) part w ≡ (if makes then latest_end plan (start_of plan (look_in state) w)
      else option_map_or (λ e. e) (window_end plan (ends_made newest_time (look_in state) (window_maker plan) w) w) 0)
  latest_so state makes is = ap (λ (b : Bool). if b then latest_end plan (start_of plan (look_in state) w)
      else option_map_or (λ e. e) (window_end plan (ends_made newest_time (look_in state) (window_maker plan) w) w) 0) is

  -- of a window that the participant's step makes
  pub made_stands : (span : Span) → span.start ≡ start → makes_windows plan part ≡ true → span.makes ≡ true → span.latest ≡ latest_end plan start
      → (state : WaveState) → AreStanding plan kept state → IsSpanOf plan state part w span
  made_stands span start_same makes is_made latest state are = record {
    start_is = start_same ∙ start_is state are;
    latest_is = latest ∙ ap (latest_end plan) (start_is state are) ∙ sym (latest_so state true makes);
    makes_is = is_made ∙ sym makes;
  }

  -- of a window whose end is kept
  pub told_stands : (span : Span) → span.start ≡ start → makes_windows plan part ≡ false → span.makes ≡ false → 1 ≤ w → window_end plan kept.ends.items w ≡ Some span.latest
      → (state : WaveState) → AreStanding plan kept state → IsSpanOf plan state part w span
  told_stands span start_same makes is_told some ends state are = record {
    start_is = start_same ∙ start_is state are;
    latest_is = sym (latest_so state false makes ∙ ap (λ (o : Option ℕ). option_map_or (λ e. e) o 0) (sym (window_end_is plan kept state are w some) ∙ ends));
    makes_is = is_told ∙ sym makes;
  }

  -- as the calls tell it
  pub made_fits : makes_windows plan part ≡ true → (made : Option Span) → IfSome made (λ s. s.start ≡ start) → IfSome made (λ s. s.latest ≡ latest_end plan start) → IfSome made (λ s. s.makes ≡ true)
      → IfSome made (λ s. (state : WaveState) → AreStanding plan kept state → IsSpanOf plan state part w s)
  made_fits makes (Some span) same latest is_made = made_stands span same makes is_made latest
  made_fits makes None same latest is_made = tt

  pub told_fits : makes_windows plan part ≡ false → 1 ≤ w → (told : Option Span) → IfSome told (λ s. s.start ≡ start) → IfSome told (λ s. window_end plan kept.ends.items w ≡ Some s.latest) → IfSome told (λ s. s.makes ≡ false)
      → IfSome told (λ s. (state : WaveState) → AreStanding plan kept state → IsSpanOf plan state part w s)
  told_fits makes some (Some span) same latest is_told = told_stands span same makes is_told some latest
  told_fits makes some None same latest is_told = tt
