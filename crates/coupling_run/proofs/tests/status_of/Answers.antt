use Rattle.std.proofs.Common.{refl}
use Rattle.coupling_run.proofs.Asks.{all_names}
use Rattle.coupling_run.proofs.tests.status_of.Goals as goal

pub coupling_solo-requires : goal.coupling_solo-requires
coupling_solo-requires c = record { may_ask = all_names _ _ _ (λ name. refl) }
