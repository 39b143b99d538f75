-- The waves that were looked at fit.
use Rattle.std.proofs.Common.{◌≡◌, ℕ, ◌+◌, ◌<◌, ◌≤◌, length, inl, inr, Option, Some, slice_get, sym, subst, ◌∙◌, arith}
use Rattle.std.proofs.lemmas.Bool.{cases_lt}
use Rattle.std.proofs.lemmas.Option.{same_Some, slice_get_within}
use Rattle.cpl_plan.specs.declared.parts.PlanParts.{PlanParts}
use Rattle.cpl_plan.specs.declared.parts.Exchange.{Exchange}
use Rattle.wave_coupling.specs.Posts.{Wave, Post, sent}
use Rattle.core_sides.specs.CoreWords.{WaveState}
use Rattle.core_sides.specs.FittingPosts.{AreWaves}
use Rattle.core_sides.specs.SidesStand.{AreStanding}
use Rattle.core_sides.specs.declared.sides.Sides.{Sides}
use Rattle.event_fits.specs.Spans.{FitsAs}
use Rattle.event_fits.specs.declared.posts.Span.{Span}
use Rattle.event_fits.proofs.Sends.{ArePassed, none_passed, other_passed, own_at, own_passed, all_passed}

-- a wave fits in every state that what is kept stands for
abbrev pub FitsKept : PlanParts → Sides → Option Span → Exchange → Wave → Type 0
FitsKept plan kept span e wave = (state : WaveState) → AreStanding plan kept state → FitsAs plan state span e wave

module _ (plan : PlanParts) (kept : Sides) (p : ℕ) (waves : Post) (span : Option Span) where
  -- before exchange n the waves before a place were looked at
  pub record AreChecked (n place : ℕ) : Type 0 where
    pub passed : ArePassed plan p n place
    pub few : place ≤ length waves
    pub fit : (i x : ℕ) (e : Exchange) (wave : Wave) → i < place → slice_get (sent plan p) i ≡ Some x → slice_get plan.exchanges x ≡ Some e
        → slice_get waves i ≡ Some wave → FitsKept plan kept span e wave

  pub none_checked : AreChecked 0 0
  none_checked = record { passed = none_passed plan p; few = omega arith; fit = λ i x e wave before. absurd (omega (arith, before)) }

  module _ (n : ℕ) (e : Exchange) (at : slice_get plan.exchanges n ≡ Some e) (place : ℕ) (checked : AreChecked n place) where
    pub other_checked : ¬ (e.from ≡ p) → AreChecked (n + 1) place
    other_checked apart = record { passed = other_passed plan p n e at place checked.passed apart; few = checked.few; fit = checked.fit }

    pub own_checked : e.from ≡ p → (wave : Wave) → slice_get waves place ≡ Some wave → FitsKept plan kept span e wave → AreChecked (n + 1) (place + 1)
    own_checked own wave there fits = record {
      passed = own_passed plan p n e at place checked.passed own;
      few = let below = slice_get_within waves place wave there in omega (arith, below);
      fit = λ i x other one before sends is_e is_wave. elim (cases_lt i place) [
        | inl earlier ↦ checked.fit i x other one earlier sends is_e is_wave
        | inr later ↦
            let same : i ≡ place = omega (arith, before, later) in
            let number : x ≡ n = same_Some x n (sym sends ∙ subst (λ (j : ℕ). slice_get (sent plan p) j ≡ Some n) (sym same) (own_at plan p n e at place checked.passed own)) in
            let exchange : e ≡ other = same_Some e other (sym at ∙ subst (λ (y : ℕ). slice_get plan.exchanges y ≡ Some other) number is_e) in
            let wave_is : wave ≡ one = same_Some wave one (sym there ∙ subst (λ (j : ℕ). slice_get waves j ≡ Some one) same is_wave) in
            subst (λ (v : Wave). FitsKept plan kept span other v) wave_is (subst (λ (y : Exchange). FitsKept plan kept span y wave) exchange fits)
      ];
    }

  pub all_checked : (n place : ℕ) → length plan.exchanges ≤ n → place ≡ length waves → AreChecked n place
      → (state : WaveState) → AreStanding plan kept state → AreWaves plan p (FitsAs plan state span) waves
  all_checked n place past whole checked state are = record {
    count = sym whole ∙ all_passed plan p n place past checked.passed;
    each = λ i x e wave sends is_e is_wave.
        let below = slice_get_within waves i wave is_wave in
        checked.fit i x e wave (omega (arith, below, whole)) sends is_e is_wave state are;
  }
