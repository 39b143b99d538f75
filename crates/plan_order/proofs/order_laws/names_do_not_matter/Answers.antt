use Rattle.plan_order.specs.Renaming.{renumbered}
use Rattle.plan_order.proofs.Renamed.{order_renamed, renumbering_renames}
use Rattle.plan_order.proofs.order_laws.names_do_not_matter.Goals as goal

pub returns-clause-renamed : goal.returns-clause-renamed
returns-clause-renamed c = λ members members' pairs pairs' name order is goes. order_renamed members pairs members' pairs' name is order goes

pub returns-clause-renumbered : goal.returns-clause-renumbered
returns-clause-renumbered c = λ members members' pairs number name order is goes.
    order_renamed members pairs members' (renumbered number pairs) name (renumbering_renames members members' number name is pairs) order goes
