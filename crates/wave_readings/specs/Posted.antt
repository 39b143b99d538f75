-- What a participant has given fits, as a look tells when each window starts and ends. After the coupling documentation's substeps and initial data; the project's own in form.
use Rattle.std.specs.Prelude.{◌≡◌, ℕ, ◌≤◌, Some}
use Rattle.cpl_plan.specs.declared.parts.PlanParts.{PlanParts}
use Rattle.cpl_plan.specs.declared.words.Item.TheVariants.{Completed, Posted}
use Rattle.coupled_loop.specs.Given.{Gift, Look}
use Rattle.wave_coupling.specs.Coupling.{start_of}
use Rattle.wave_coupling.specs.Posts.{Post}
use Rattle.wave_laws.specs.Fitting.{end_told}
use Rattle.wave_values.specs.Fits.{IsFittingPost, IsFittingStart}

-- its initial post, what it has completed windows with, and its post of each iteration
pub record ArePostsFitting (plan : PlanParts) (vertices : ℕ → ℕ) (look : Look Post) (part : ℕ) : Type 0 where
  pub initial : (gift : Gift Post) → look part (Completed 0) ≡ Some gift → IsFittingStart plan vertices part gift.post
  pub completed : (w : ℕ) (gift : Gift Post) → 1 ≤ w → look part (Completed w) ≡ Some gift
      → IsFittingPost plan vertices part (start_of plan look w) (end_told plan look w) gift.post
  pub posted : (w k : ℕ) (gift : Gift Post) → look part (Posted w k) ≡ Some gift
      → IsFittingPost plan vertices part (start_of plan look w) (end_told plan look w) gift.post
