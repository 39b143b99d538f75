-- When a scheme's iteration may be judged: a member asks for it, and all members have posted it. After the coupling documentation's implicit schemes; that it is judged once is the project's own.
use Rattle.std.specs.Prelude.{◌≡◌, ℕ, ◌<◌, true, length, List, slice_get, Option, Some, None}
use Rattle.cpl_plan.specs.declared.parts.PlanParts.{PlanParts}
use Rattle.cpl_plan.specs.declared.parts.Scheme.{Scheme}
use Rattle.coupled_loop.specs.CoreState.{Place, sending, collecting, opening, taking, within, judging, look_in}
use Rattle.coupled_loop.specs.CoreStep.{judges, is_granted}
use Rattle.sample_store.specs.Kept.{Kept as StoreKept}
use Rattle.wave_coupling.specs.Coupling.{wave_frame, start_of}
use Rattle.group_course.specs.declared.iteration.Iteration.{Iteration}
use Rattle.core_sides.specs.CoreWords.{WaveState, WaveAct, WaveEntry}
use Rattle.core_sides.specs.Reached.{IsReached}
use Rattle.core_stores.specs.StoresStand.{AreStores}
use Rattle.core_schemes.specs.declared.schemes.LastJudged.{LastJudged}
use Rattle.core_schemes.specs.declared.schemes.SchemeState.{SchemeState}
use Rattle.core_schemes.specs.SchemesStand.{IsSchemeOf}

-- the last judged iteration is this one
abbrev pub IsOfTurn : (w k : ℕ) → Option LastJudged → Type 0
IsOfTurn w k None = ⊥
IsOfTurn w k (Some last) = (last.window ≡ w) × (last.iteration ≡ k)

abbrev pub HasJudged : Iteration → Option LastJudged → Type 0
HasJudged at last = IsOfTurn at.window at.number last

-- a participant stands at the iteration, all members have posted it, and what is kept is what the state says
pub record MayJudge (plan : PlanParts) (stores : List (Option StoreKept)) (state : SchemeState) (at : Iteration) (sides : WaveState) : Type 0 where
  pub history : List WaveEntry
  pub reached : IsReached plan history sides
  pub stores_stand : AreStores plan stores sides
  pub scheme_stands : (scheme : Scheme) → slice_get plan.schemes at.scheme ≡ Some scheme → IsSchemeOf plan sides at.scheme scheme state state.last
  pub part : ℕ
  pub is_part : part < length plan.parts
  pub place : (sides part).place ≡ judging at.scheme at.window at.number
  pub posted : is_granted (wave_frame plan) sides part (judging at.scheme at.window at.number) ≡ true
  pub start : at.start ≡ start_of plan (look_in sides) at.window

-- so in some state
pub record CanJudge (plan : PlanParts) (stores : List (Option StoreKept)) (state : SchemeState) (at : Iteration) : Type 0 where
  pub sides : WaveState
  pub may : MayJudge plan stores state at sides

-- what a participant is told at a Judge is what its scheme judged last
abbrev pub IsHeardAt : (schemes : List SchemeState) → Place → Type 0
IsHeardAt schemes (judging scheme w k) = (state : SchemeState) → slice_get schemes scheme ≡ Some state → IsOfTurn w k state.last
IsHeardAt schemes sending = Unit {0}
IsHeardAt schemes collecting = Unit {0}
IsHeardAt schemes opening = Unit {0}
IsHeardAt schemes (taking w k) = Unit {0}
IsHeardAt schemes (within w k) = Unit {0}

abbrev pub IsHeard : (schemes : List SchemeState) → Place → WaveAct → Type 0
IsHeard schemes place judges = IsHeardAt schemes place
IsHeard schemes place _ = Unit {0}
