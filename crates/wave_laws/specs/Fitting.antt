-- Waves that fit an exchange: how many samples, at which times, of how many values. After the coupling documentation's substeps and initial data; the most samples are the project's own.
use Rattle.std.specs.Prelude.{◌≡◌, ◌⊎◌, ℕ, ◌*◌, ◌<◌, ◌≤◌, List, length, slice_get, Some, None, IsSome, All, AllPairs, ℤ}
use Rattle.std.specs.Option.{option_map_or}
use Rattle.fixed_num.specs.Numbers.{IsValue}
use Rattle.waveform.specs.IsWave.{first_time, last_time}
use Rattle.waveform.specs.declared.field.Field.{Field}
use Rattle.waveform.specs.declared.sample.Sample.{Sample}
use Rattle.cpl_plan.specs.PlanWords.{components_of}
use Rattle.cpl_plan.specs.Windows.{window_end}
use Rattle.cpl_plan.specs.declared.parts.PlanParts.{PlanParts}
use Rattle.cpl_plan.specs.declared.parts.Exchange.{Exchange}
use Rattle.cpl_plan.specs.declared.parts.Scheme.{Scheme}
use Rattle.cpl_plan.specs.declared.words.Item.TheVariants.{Completed, Posted}
use Rattle.coupled_loop.specs.Given.{Look}
use Rattle.coupled_loop.specs.PlanFrames.{ends_made, window_maker}
use Rattle.wave_coupling.specs.Posts.{Wave, Post, newest_time}
use Rattle.wave_coupling.specs.InputWave.{completed, posted, relaxed_after}
use Rattle.wave_coupling.specs.Coupling.{start_of}

-- a field of so many components at a vertex and so many values in all
pub record IsFieldOf (components count : ℕ) (field : Field) : Type 0 where
  pub at_vertex : field.components ≡ components
  pub in_all : length field.values ≡ count
  pub values : All IsValue field.values

-- a sample of so many components at a vertex and so many values in all
pub record IsSampleOf (components count : ℕ) (sample : Sample) : Type 0 where
  pub at_vertex : sample.field.components ≡ components
  pub in_all : length sample.field.values ≡ count
  pub values : All IsValue sample.field.values

abbrev pub AreSamplesOf : (components count : ℕ) → Wave → Type 0
AreSamplesOf components count wave = All (IsSampleOf components count) wave

-- each sample before all later ones
abbrev pub Rises : Wave → Type 0
Rises wave = AllPairs (λ (sample later : Sample). sample.time < later.time) wave

-- initial data: one sample, at the start
pub record IsInitialWave (components count : ℕ) (wave : Wave) : Type 0 where
  pub one : length wave ≡ 1
  pub at_start : first_time wave ≡ 0
  pub samples : AreSamplesOf components count wave

-- what is posted for a window: some samples after its start, the last at its end
pub record IsPostedWave (start end components count : ℕ) (wave : Wave) : Type 0 where
  pub least : 1 ≤ length wave
  pub most : length wave ≤ 1024
  pub rising : Rises wave
  pub after_start : All (λ (sample : Sample). start < sample.time) wave
  pub at_end : last_time wave ≡ end
  pub samples : AreSamplesOf components count wave

-- what is read in a window: a sample at its start, alone or with others, the last at its end
pub record IsInputWave (start end components count : ℕ) (wave : Wave) : Type 0 where
  pub least : 1 ≤ length wave
  pub most : length wave ≤ 1025
  pub rising : Rises wave
  pub at_start : first_time wave ≡ start
  pub at_end : (length wave ≡ 1) ⊎ (last_time wave ≡ end)
  pub samples : AreSamplesOf components count wave

-- values of so many, each a Value
pub record AreValues (count : ℕ) (values : List ℤ) : Type 0 where
  pub in_all : length values ≡ count
  pub each : All IsValue values

-- the end of a window; 0 where it is not told
abbrev pub end_told : PlanParts → Look Post → (w : ℕ) → ℕ
end_told plan look w = option_map_or (λ end. end) (window_end plan (ends_made newest_time look (window_maker plan) w) w) 0

module _ (plan : PlanParts) (vertices : ℕ → ℕ) where
  -- how many values a sample of an exchange has, on a mesh of so many vertices
  abbrev pub count_of : Exchange → ℕ
  count_of e = components_of plan e * vertices e.mesh

  -- all that was given fits
  pub record IsFittingLook (look : Look Post) : Type 0 where
    pub initial : (x : ℕ) (e : Exchange) → slice_get plan.exchanges x ≡ Some e → IsSome (look e.from (Completed 0))
        → IsInitialWave (components_of plan e) (count_of e) (completed plan look e x 0).wave
    pub accepted : (x w : ℕ) (e : Exchange) → slice_get plan.exchanges x ≡ Some e → 1 ≤ w → IsSome (look e.from (Completed w))
        → IsPostedWave (start_of plan look w) (end_told plan look w) (components_of plan e) (count_of e) (completed plan look e x w).wave
    pub posts : (x w k : ℕ) (e : Exchange) → slice_get plan.exchanges x ≡ Some e → IsSome (look e.from (Posted w k))
        → IsPostedWave (start_of plan look w) (end_told plan look w) (components_of plan e) (count_of e) (posted plan look e x w k).wave

-- no relaxed value of the iterations below a number is out of range
abbrev pub IsRelaxedBelow : PlanParts → Look Post → Scheme → (w k : ℕ) → Type 0
IsRelaxedBelow plan look scheme w k =
    (j : ℕ) → 1 ≤ j → j < k → (relaxed_after plan look scheme w (start_of plan look w) j).outside ≡ None
