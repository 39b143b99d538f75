use Rattle.std.proofs.Common.{refl}
use Rattle.accepted_case.proofs.Asks.{all_cases}
use Rattle.case_tests.proofs.cases_loaded.loaded.Goals as goal

pub load_case-requires : goal.load_case-requires
load_case-requires c = record { may_load = (refl, all_cases _ _ _ (λ name. refl)) }
