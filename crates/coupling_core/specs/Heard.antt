-- What a participant is told of an iteration that its scheme has judged, and where it then stands: it repeats the window, goes on to the next, or ends by the scheme's fault. After the coupling documentation's implicit schemes.
use Rattle.std.specs.Prelude.{◌≡◌, ℕ, ◌+◌, List, [], ◌∷◌, slice_get, Option, Some, None}
use Rattle.cpl_plan.specs.declared.parts.PlanParts.{PlanParts}
use Rattle.cpl_plan.specs.declared.words.Fault.{Fault}
use Rattle.cpl_plan.specs.declared.words.IterLine.{IterLine}
use Rattle.cpl_plan.specs.declared.words.Verdict.{Verdict}
use Rattle.cpl_plan.specs.declared.words.Verdict.TheVariants.{Again, Converged, AtLimit, NotConverged}
use Rattle.coupled_loop.specs.CoreState.{look_in}
use Rattle.coupled_loop.specs.CoreStep.{after_judgement}
use Rattle.wave_coupling.specs.Coupling.{start_of}
use Rattle.sample_store.specs.Kept.{Kept as StoreKept}
use Rattle.group_course.specs.JudgementOf.{judgement_by}
use Rattle.group_course.specs.declared.iteration.Iteration.{Iteration}
use Rattle.core_sides.specs.CoreWords.{WaveState, WaveSide, WaveEntry}
use Rattle.core_sides.specs.declared.event.Ending.TheVariants.{Faulted as FaultedEnding}
use Rattle.core_sides.specs.declared.event.Reply.{Reply}
use Rattle.core_sides.specs.declared.event.Reply.TheVariants.{Judged, Faulted}
use Rattle.core_sides.specs.declared.standing.Place.{Place}
use Rattle.core_sides.specs.declared.standing.Place.TheVariants.{Taking, Judging}
use Rattle.core_sides.specs.declared.standing.Standing.{Standing}
use Rattle.core_schemes.specs.Judging.{MayJudge, CanJudge}
use Rattle.core_schemes.specs.declared.schemes.LastJudged.{LastJudged}
use Rattle.core_schemes.specs.declared.schemes.OnceJudged.{OnceJudged}
use Rattle.core_schemes.specs.declared.schemes.SchemeState.{SchemeState}
use Rattle.coupling_core.specs.CoreKept.{CoreKept}
use Rattle.coupling_core.specs.StandsFor.{StandsFor}

-- after a post: who is in no implicit scheme goes on to the next window, any other is judged
abbrev pub place_posted : Option ℕ → (w k : ℕ) → Place
place_posted None w k = Taking (w + 1) 1
place_posted (Some scheme) w k = Judging scheme w k

-- a strict measure that fails is a fault
abbrev pub IsStrictBy : Option Fault → Verdict → Type 0
IsStrictBy None (NotConverged measure) = ⊥
IsStrictBy fault verdict = Unit {0}

abbrev pub IsStrict : LastJudged → Type 0
IsStrict last = IsStrictBy last.fault last.verdict

-- what is replied
abbrev pub reply_by : Option Fault → Verdict → Reply
reply_by (Some fault) verdict = Faulted fault
reply_by None verdict = Judged verdict

abbrev pub reply_heard : LastJudged → Reply
reply_heard last = reply_by last.fault last.verdict

-- the participant after it, as it is kept
abbrev pub standing_by : Option Fault → Verdict → (w k : ℕ) → Standing → Standing
standing_by (Some fault) verdict w k s = record s { ending = Some (FaultedEnding fault) }
standing_by None Again w k s = record s { place = Taking w (k + 1) }
standing_by None Converged w k s = record s { place = Taking (w + 1) 1 }
standing_by None AtLimit w k s = record s { place = Taking (w + 1) 1 }
standing_by None (NotConverged measure) w k s = record s { place = Taking w (k + 1) }

abbrev pub standing_heard : LastJudged → Standing → Standing
standing_heard last s = standing_by last.fault last.verdict last.window last.iteration s

-- and in the state
abbrev pub side_heard : LastJudged → WaveSide → WaveSide
side_heard last side = after_judgement (judgement_by last.fault last.verdict) last.window last.iteration side

-- the line of an iteration that is judged now
abbrev pub line_by : Iteration → LastJudged → Option (List ℕ) → List IterLine
line_by at last None = []
line_by at last (Some norms) = record { scheme = at.scheme; window = at.window; iteration = at.number; verdict = last.verdict; norms = norms } ∷ []

abbrev pub line_told : Iteration → OnceJudged → List IterLine
line_told at told = line_by at told.last told.norms

-- a window starts then
abbrev pub IsStartIn : CoreKept → (w start : ℕ) → Type 0
IsStartIn core w start = (history : List WaveEntry) (sides : WaveState) → StandsFor core history sides → start ≡ start_of core.plan (look_in sides) w

module _ (plan : PlanParts) (stores : List (Option StoreKept)) (schemes : List SchemeState) (at : Iteration) where
  -- its scheme may judge an iteration in a state
  abbrev pub IsJudging : WaveState → Type 0
  IsJudging sides = (state : SchemeState) → slice_get schemes at.scheme ≡ Some state → MayJudge plan stores state at sides

  -- in some state, of which the scheme is
  pub record CanBeJudged : Type 0 where
    pub state : SchemeState
    pub there : slice_get schemes at.scheme ≡ Some state
    pub can : CanJudge plan stores state at

-- what a scheme has judged last
abbrev pub IsLastOf : List SchemeState → (number : ℕ) → LastJudged → Type 0
IsLastOf schemes number last = (state : SchemeState) → slice_get schemes number ≡ Some state → state.last ≡ Some last
