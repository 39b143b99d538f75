-- What a report or a fault line may be asked of: participants and watch-points of the plan, and windows that were completed. The project's own.
use Rattle.std.specs.Prelude.{◌≡◌, ⊤, ℕ, ◌<◌, ◌≤◌, List, length, slice_get, Some, IsSome}
use Rattle.cpl_plan.specs.declared.parts.PlanParts.{PlanParts}
use Rattle.cpl_plan.specs.declared.parts.Part.{Part}
use Rattle.cpl_plan.specs.declared.words.Fault.{Fault}
use Rattle.cpl_plan.specs.declared.words.Fault.TheVariants.{Solver, Steps, WriteMap, ReadMap, Relax, NotConverged}
use Rattle.cpl_plan.specs.declared.words.WatchRow.{WatchRow}

-- the participant that a fault names is one of the plan's
abbrev pub IsFaultOf : PlanParts → Fault → Type 0
IsFaultOf plan (Solver part w k step code) = part < length plan.parts
IsFaultOf plan (Steps part w k) = part < length plan.parts
IsFaultOf plan (WriteMap part w k exchange time vertex component) = part < length plan.parts
IsFaultOf plan (ReadMap part w k exchange time vertex component) = part < length plan.parts
IsFaultOf plan (Relax scheme w k exchange time component) = ⊤
IsFaultOf plan (NotConverged scheme w k measure) = ⊤

-- a row is of a watch-point of the plan, and of one of the windows
pub record IsRowOf (plan : PlanParts) (windows : ℕ) (row : WatchRow) : Type 0 where
  pub part : row.part < length plan.parts
  pub watch : (p : Part) → slice_get plan.parts row.part ≡ Some p → row.watch < length p.watches
  pub from_one : 1 ≤ row.window
  pub window : row.window ≤ windows
