-- A core for each list of fitting events.
use Rattle.std.proofs.Common.{◌≡◌, ℕ, List, All, refl}
use Rattle.cpl_plan.specs.ValidPlan.{IsValidPlan}
use Rattle.cpl_plan.specs.declared.parts.PlanParts.{PlanParts}
use Rattle.group_course.specs.CourseKept.{IsKept as IsCourseKept}
use Rattle.core_sides.specs.CoreWords.{WaveState, WaveEntry}
use Rattle.core_sides.specs.Reached.{IsReached}
use Rattle.core_stores.specs.StoresStand.{AreKept as AreStoresKept}
use Rattle.core_stores.proofs.AllStores.{some_stores}
use Rattle.core_schemes.specs.declared.schemes.SchemeState.{SchemeState}
use Rattle.coupling_core.specs.CoreKept.{CoreKept}
use Rattle.coupling_core.specs.JudgedLines.{lines_of}
use Rattle.coupling_core.specs.StandsFor.{StandsFor, IsKept}
use Rattle.coupling_core.proofs.SomeLined.{some_lined}
use Rattle.coupling_core.proofs.SomePlaced.{some_placed}

module _ (plan : PlanParts) (valid : IsValidPlan plan) (history : List WaveEntry) (sides : WaveState) (reached : IsReached plan history sides) where
  core_of : CoreKept
  core_of =
      let placed = some_placed plan valid history sides reached in
      let stores = some_stores plan valid history sides reached in
      let judged = some_lined plan valid history sides reached in record {
        plan = plan;
        standings = placed.standings;
        ends = placed.windows;
        stores = stores.0;
        schemes = judged.schemes;
        lines = lines_of plan history;
      }

  stands_of : StandsFor core_of history sides
  unfolding core_of
  stands_of =
      let placed = some_placed plan valid history sides reached in
      let stores = some_stores plan valid history sides reached in
      let judged = some_lined plan valid history sides reached in record {
        reached = reached;
        sides = placed.are;
        stores = stores.1;
        schemes = judged.stand;
        lines = refl;
        lined = judged.lined;
      }

  pub record HasCore : Type 0 where
    pub core : CoreKept
    pub plan_is : core.plan ≡ plan
    pub is_kept : IsKept core
    pub stores_kept : AreStoresKept core.stores
    pub courses_kept : All (λ (state : SchemeState). IsCourseKept state.course) core.schemes
    pub stands : StandsFor core history sides

  pub some_core : HasCore
  unfolding core_of
  some_core = record {
    core = core_of;
    plan_is = refl;
    is_kept = record { valid = valid; history = history; state = sides; stands = stands_of };
    stores_kept = (some_stores plan valid history sides reached).2;
    courses_kept = (some_lined plan valid history sides reached).kept;
    stands = stands_of;
  }
