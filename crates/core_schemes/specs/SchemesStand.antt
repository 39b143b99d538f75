-- What a core keeps of the schemes: the last judged iteration, and the members stand at it or right after it. After the coupling documentation's implicit schemes, whose participants repeat a window together.
use Rattle.std.specs.Prelude.{◌≡◌, ◌⊎◌, ℕ, suc, ◌+◌, ◌<◌, ◌≤◌, length, IsTrue, List, slice_get, Option, Some, None, Contains}
use Rattle.plan_order.specs.declared.node.Node.TheVariants.{Group}
use Rattle.cpl_plan.specs.declared.parts.PlanParts.{PlanParts}
use Rattle.cpl_plan.specs.declared.parts.Scheme.{Scheme}
use Rattle.cpl_plan.specs.declared.words.Fault.{Fault}
use Rattle.cpl_plan.specs.declared.words.Verdict.TheVariants.{NotConverged}
use Rattle.coupled_loop.specs.CoreState.{look_in, turn_at}
use Rattle.coupled_loop.specs.Endings.{Judgement, again, converged, at_limit, refused}
use Rattle.coupled_loop.specs.Given.{Look}
use Rattle.coupled_loop.specs.PlanFrames.{group_of}
use Rattle.coupled_loop.specs.Settled.{Extends, IsInOrder, HavePostedBelow}
use Rattle.wave_coupling.specs.Posts.{Post}
use Rattle.wave_coupling.specs.Coupling.{wave_frame, start_of, judge_of}
use Rattle.group_course.specs.CourseTells.{CourseTells}
use Rattle.group_course.specs.JudgementOf.{judgement_by}
use Rattle.core_sides.specs.CoreWords.{WaveState}
use Rattle.core_schemes.specs.declared.schemes.LastJudged.{LastJudged}
use Rattle.core_schemes.specs.declared.schemes.SchemeState.{SchemeState}

-- the turn after a judged one, where there is one
abbrev pub IsNextTurn : Judgement Fault → (w k : ℕ) → ℕ × ℕ → Type 0
IsNextTurn again w k turn = turn ≡ (w, k + 1)
IsNextTurn converged w k turn = turn ≡ (w + 1, 1)
IsNextTurn at_limit w k turn = turn ≡ (w + 1, 1)
IsNextTurn (refused fault) w k turn = ⊥

module _ (plan : PlanParts) (sides : WaveState) (number : ℕ) where
  -- nobody has been told a judgement
  abbrev pub AreUnjudged : Type 0
  AreUnjudged =
      (part : ℕ) → part < length plan.parts → group_of plan part ≡ Some number → (turn_at (sides part).place ≡ (0, 0)) ⊎ (turn_at (sides part).place ≡ (1, 1))

  pub record IsLastJudged (scheme : Scheme) (state : SchemeState) (last : LastJudged) : Type 0 where
    -- the scheme repeats windows
    pub implicit : Contains plan.nodes (Group number)
    pub window : 1 ≤ last.window
    pub iteration : 1 ≤ last.iteration
    -- the window is there, whatever is given later
    pub there : (later : Look Post) → Extends (look_in sides) later → IsInOrder later → IsTrue ((wave_frame plan).is_there later last.window)
    pub posted : HavePostedBelow (wave_frame plan) (look_in sides) number last.window (suc last.iteration)
    pub judgement : judgement_by last.fault last.verdict ≡ judge_of plan (look_in sides) number last.window last.iteration
    -- a strict measure that fails is a fault
    pub strict : (measure : ℕ) → last.fault ≡ None → last.verdict ≡ NotConverged measure → ⊥
    -- what the next iteration reads
    pub repeats : judge_of plan (look_in sides) number last.window last.iteration ≡ again
        → CourseTells plan (look_in sides) scheme last.window (start_of plan (look_in sides) last.window) last.iteration state.course
    -- members are never more than one iteration apart
    pub members : (part : ℕ) → part < length plan.parts → group_of plan part ≡ Some number
        → (turn_at (sides part).place ≡ (last.window, last.iteration))
        ⊎ IsNextTurn (judge_of plan (look_in sides) number last.window last.iteration) last.window last.iteration (turn_at (sides part).place)

  abbrev pub IsSchemeOf : Scheme → SchemeState → (last : Option LastJudged) → Type 0
  IsSchemeOf scheme state None = AreUnjudged
  IsSchemeOf scheme state (Some last) = IsLastJudged scheme state last

pub record AreSchemes (plan : PlanParts) (schemes : List SchemeState) (sides : WaveState) : Type 0 where
  pub count : length schemes ≡ length plan.schemes
  pub each : (number : ℕ) (scheme : Scheme) (state : SchemeState) → slice_get plan.schemes number ≡ Some scheme → slice_get schemes number ≡ Some state
      → IsSchemeOf plan sides number scheme state state.last
