use Rattle.core_stores.proofs.AllStores.{some_stores}
use Rattle.core_stores.proofs.laws.some_stores_stand.Goals as goal

pub returns : goal.returns
returns c plan history sides valid reached = some_stores plan valid history sides reached
