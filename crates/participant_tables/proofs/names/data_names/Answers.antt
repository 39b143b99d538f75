use Rattle.cpl_plan.specs.declared.parts.DataPlan.{DataPlan}
use Rattle.participant_tables.proofs.NamesOnce.{new_item}
use Rattle.participant_tables.proofs.names.data_names.Goals as goal

pub add-requires : goal.add-requires
add-requires c = new_item (λ (item : DataPlan). item.name) c.args.items.now c.items.item-index c.item-item.result c.items.names c.items.invariant c.item-item.is c.items-test.true c.requires
