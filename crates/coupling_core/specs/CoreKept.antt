-- What a core keeps: where the participants stand, two windows of what was posted, and what the implicit schemes remember. The project's own.
use Rattle.std.specs.Prelude.{ℕ, List, Option}
use Rattle.cpl_plan.specs.declared.parts.PlanParts.{PlanParts}
use Rattle.cpl_plan.specs.declared.words.IterLine.{IterLine}
use Rattle.sample_store.specs.Kept.{Kept as StoreKept}
use Rattle.core_sides.specs.declared.standing.Standing.{Standing}
use Rattle.core_schemes.specs.declared.schemes.SchemeState.{SchemeState}

pub record CoreKept : Type 0 where
  pub plan : PlanParts
  -- by the participants' numbers
  pub standings : List Standing
  -- where the first participant's steps make the windows, when they ended
  pub ends : List ℕ
  -- by the exchanges' numbers; none before the sender's initial post
  pub stores : List (Option StoreKept)
  -- by the schemes' numbers
  pub schemes : List SchemeState
  pub lines : List IterLine
