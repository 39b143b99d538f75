use Rattle.std.proofs.Common.{◌≡◌, map, take}
use Rattle.cpl_plan.specs.declared.parts.DataPlan.{DataPlan}
use Rattle.participant_tables.proofs.names.data_names.Given as goal

abbrev pub invariant-items : goal.invariant-items
invariant-items l = l.names ≡ map (λ (item : DataPlan). item.name) (take l.item-index l.items)
