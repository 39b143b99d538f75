use Rattle.std.proofs.Common.{refl}
use Rattle.coupling_core.specs.CoreKept.{CoreKept}
use Rattle.coupling_core.proofs.SomeCores.{some_core}
use Rattle.coupling_core.proofs.laws.law_stands.Goals as goal

pub returns : goal.returns
returns c = λ plan h sides valid reached.
    let some = some_core plan valid h sides reached in (some.core, some.plan_is, some.is_kept, some.stores_kept, some.courses_kept, some.stands)
