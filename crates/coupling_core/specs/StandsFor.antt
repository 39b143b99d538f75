-- A core stands for a list of events: all that it keeps is what the state after that list says. The project's own.
use Rattle.std.specs.Prelude.{◌≡◌, List}
use Rattle.cpl_plan.specs.ValidPlan.{IsValidPlan}
use Rattle.core_sides.specs.CoreWords.{WaveState, WaveEntry}
use Rattle.core_sides.specs.Reached.{IsReached}
use Rattle.core_stores.specs.StoresStand.{AreStores}
use Rattle.core_schemes.specs.SchemesStand.{AreSchemes}
use Rattle.coupling_core.specs.CoreKept.{CoreKept}
use Rattle.coupling_core.specs.JudgedLines.{lines_of}
use Rattle.coupling_core.specs.LinesStand.{AreLined}
use Rattle.coupling_core.specs.Placed.{ArePlaced}

-- a legal list of fitting events leads to this state, and one clause for each thing that the core keeps
pub record StandsFor (core : CoreKept) (history : List WaveEntry) (state : WaveState) : Type 0 where
  pub reached : IsReached core.plan history state
  pub sides : ArePlaced core.plan core.standings core.ends state
  pub stores : AreStores core.plan core.stores state
  pub schemes : AreSchemes core.plan core.schemes state
  pub lines : core.lines ≡ lines_of core.plan history
  pub lined : AreLined core.lines core.schemes

-- the plan is an accepted configuration's, and there is such a list
pub record IsKept (core : CoreKept) : Type 0 where
  pub valid : IsValidPlan core.plan
  pub history : List WaveEntry
  pub state : WaveState
  pub stands : StandsFor core history state
