-- Samples that can follow what was accepted at the end of the window before. The project's own.
use Rattle.std.specs.Prelude.{◌≡◌, ℕ, ◌-◌, ◌<◌, All, length, Some}
use Rattle.waveform.specs.IsWave.{first_time}
use Rattle.waveform.specs.Shape.{IsLike}
use Rattle.waveform.specs.declared.sample.Sample.{Sample}
use Rattle.waveform.specs.declared.wave.TheConstants.{MOST_SAMPLES}
use Rattle.cpl_plan.specs.declared.parts.PlanParts.{PlanParts}
use Rattle.cpl_plan.specs.declared.parts.Exchange.{Exchange}
use Rattle.cpl_plan.specs.declared.parts.Scheme.{Scheme}
use Rattle.cpl_plan.specs.declared.parts.Accel.{Accel}
use Rattle.coupled_loop.specs.Given.{Look}
use Rattle.sample_store.specs.Kept.{Kept}
use Rattle.wave_coupling.specs.Posts.{Wave, Post, newest_sample}
use Rattle.wave_coupling.specs.InputWave.{completed, iterated_samples}
use Rattle.group_course.specs.CourseKept.{CourseKept}
use Rattle.group_course.specs.StoresTell.{StoreTells}
use Rattle.group_course.specs.CourseTells.{CourseTells}
use Rattle.core_takes.specs.declared.takes.TakeTurn.{TakeTurn}

-- all after the start, of the shape of the newest before, and not too many
pub record CanFollow (start : ℕ) (before samples : Wave) : Type 0 where
  pub later : start < first_time samples
  pub alike : (end : Sample) → newest_sample before ≡ Some end → All (λ s. IsLike end.field s.field) samples
  pub few : length samples < MOST_SAMPLES

module _ (turn : TakeTurn) (x : ℕ) (store : Kept) where
  -- by what the store tells of an exchange these samples can follow
  pub record IsReadable (samples : PlanParts → Look Post → Exchange → Wave) : Type 0 where
    pub plan : PlanParts
    pub look : Look Post
    pub e : Exchange
    pub tells : StoreTells plan look x e store
    pub follow : CanFollow turn.start (completed plan look e x (turn.window - 1)).wave (samples plan look e)

  -- and so can those that are kept of the iteration before
  pub record IsRepeatable (course : CourseKept) (accel : Accel) : Type 0 where
    pub plan : PlanParts
    pub look : Look Post
    pub e : Exchange
    pub scheme : Scheme
    pub by_scheme : scheme.accel ≡ accel
    pub tells : StoreTells plan look x e store
    pub told : CourseTells plan look scheme turn.window turn.start (turn.iteration - 1) course
    pub follow : CanFollow turn.start (completed plan look e x (turn.window - 1)).wave
        (iterated_samples plan look e x turn.window turn.start (turn.iteration - 1) (Some scheme))
