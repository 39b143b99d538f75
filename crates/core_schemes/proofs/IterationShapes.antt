-- What was given for an iteration of a scheme has the plan's shapes, where all that was given fits.
use Rattle.std.proofs.Common.{◌≡◌, ℕ, zero, suc, ◌-◌, ◌*◌, ◌^◌, ◌<◌, ◌≤◌, inl, inr, length, get_or, slice_get, Some, IsSome, All, sym, ap, ◌∙◌, arith}
use Rattle.std.proofs.lemmas.Bool.{cases_lt}
use Rattle.std.proofs.lemmas.List.{get_or-map}
use Rattle.cpl_plan.specs.PlanWords.{components_of}
use Rattle.cpl_plan.specs.declared.parts.PlanParts.{PlanParts}
use Rattle.cpl_plan.specs.declared.parts.Exchange.{Exchange}
use Rattle.cpl_plan.specs.declared.words.Item.TheVariants.{Completed, Posted}
use Rattle.waveform.specs.declared.sample.Sample.{Sample}
use Rattle.coupled_loop.specs.Given.{Look}
use Rattle.wave_coupling.specs.Posts.{Wave, Post}
use Rattle.wave_coupling.specs.InputWave.{completed, posted}
use Rattle.wave_coupling.specs.Coupling.{start_of}
use Rattle.wave_laws.specs.Fitting.{AreSamplesOf, IsPostedWave, IsFittingLook, end_told}
use Rattle.group_course.specs.Shapes.{HasShape, IsTurnWave, AreShaped}

have_shape : (components vertices : ℕ) (wave : Wave) → AreSamplesOf components (components * vertices) wave → All (λ (s : Sample). HasShape components vertices s.field) wave
have_shape components vertices wave samples = λ i d inside. let one = samples i d inside in record { each = one.at_vertex; values = one.in_all }

-- no sample comes after the last one
turn_wave : (start end components vertices : ℕ) (wave : Wave) → IsPostedWave start end components (components * vertices) wave → IsTurnWave components vertices start end wave
turn_wave start end components vertices wave is = record {
  some = is.least;
  few = is.most;
  shape = have_shape components vertices wave is.samples;
  after = is.after_start;
  within = λ i d inside. by i d inside;
  last = is.at_end;
} where
  last_is : (d : Sample) → (get_or wave (length wave - 1) d).time ≡ end
  last_is d = sym (get_or-map (λ (s : Sample). s.time) wave (length wave - 1) d 0 (omega (arith, is.least))) ∙ is.at_end

  by : (i : ℕ) (d : Sample) → i < length wave → (get_or wave i d).time ≤ end
  by i d inside = elim (cases_lt i (length wave - 1)) [
    | inl before ↦
        let rises : (get_or wave i d).time < (get_or wave (length wave - 1) d).time = is.rising i (length wave - 1) d before (omega (arith, is.least)) in
        omega (arith, rises, last_is d)
    | inr newest ↦
        let same : i ≡ length wave - 1 = omega (arith, newest, inside) in
        let own : (get_or wave i d).time ≡ (get_or wave (length wave - 1) d).time = ap (λ (j : ℕ). (get_or wave j d).time) same in
        omega (arith, own, last_is d)
  ]

module _ (plan : PlanParts) (vertices : ℕ → ℕ) (look : Look Post) (fits : IsFittingLook plan vertices look) where
  -- what was accepted for a window, or given at first
  some_accepted : (x v : ℕ) (e : Exchange) → slice_get plan.exchanges x ≡ Some e → IsSome (look e.from (Completed v))
      → (1 ≤ length (completed plan look e x v).wave) × All (λ (s : Sample). HasShape (components_of plan e) (vertices e.mesh) s.field) (completed plan look e x v).wave
  some_accepted x zero e at is =
      let wave = fits.initial x e at is in (omega (arith, wave.one), have_shape (components_of plan e) (vertices e.mesh) (completed plan look e x 0).wave wave.samples)
  some_accepted x (suc u) e at is =
      let wave = fits.accepted x (suc u) e at (omega arith) is in (wave.least, have_shape (components_of plan e) (vertices e.mesh) (completed plan look e x (suc u)).wave wave.samples)

  pub are_shaped : (number w k : ℕ) → ((mesh : ℕ) → vertices mesh ≤ 10 ^ 4)
      → ((x : ℕ) (e : Exchange) → slice_get plan.exchanges x ≡ Some e → e.scheme ≡ number → IsSome (look e.from (Completed (w - 1))))
      → ((x : ℕ) (e : Exchange) → slice_get plan.exchanges x ≡ Some e → e.scheme ≡ number → (j : ℕ) → 1 ≤ j → j ≤ k → IsSome (look e.from (Posted w j)))
      → 1 ≤ k → AreShaped plan look number w (start_of plan look w) k
  are_shaped number w k few before posts some = record {
    vertices = vertices;
    few = few;
    end = end_told plan look w;
    waves = λ x e at own.
        let accepted = some_accepted x (w - 1) e at (before x e at own) in
        record {
          some = accepted.0;
          before = accepted.1;
          newest = turn_wave (start_of plan look w) (end_told plan look w) (components_of plan e) (vertices e.mesh) (posted plan look e x w k).wave
              (fits.posts x w k e at (posts x e at own k some (omega arith)));
          last = λ more. turn_wave (start_of plan look w) (end_told plan look w) (components_of plan e) (vertices e.mesh) (posted plan look e x w (k - 1)).wave
              (fits.posts x w (k - 1) e at (posts x e at own (k - 1) (omega (arith, more)) (omega arith)));
        };
  }
