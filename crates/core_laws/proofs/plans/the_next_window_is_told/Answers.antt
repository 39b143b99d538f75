use Rattle.std.proofs.Common.{◌+◌, ◌-◌, refl, arith}
use Rattle.cpl_plan.proofs.FixedWindows.{window_number}
use Rattle.coupled_loop.specs.PlanFrames.{ends_made, window_maker}
use Rattle.core_laws.proofs.PlanWindows.{next_is_told}
use Rattle.core_laws.proofs.plans.the_next_window_is_told.Goals as goal

pub returns-clause-first : goal.returns-clause-first
returns-clause-first types c = λ plan newest f g. refl

pub returns-clause-next : goal.returns-clause-next
returns-clause-next types c = λ plan exchanged f g part w k valid below extends order given is.
    next_is_told plan valid exchanged.newest f g part w k below extends order given is (w + 1 - 1) (omega arith)

pub returns-clause-numbered : goal.returns-clause-numbered
returns-clause-numbered types c = λ plan newest f w is. window_number plan (ends_made newest f (window_maker plan) (w - 1)) w is
