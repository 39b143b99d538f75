use Rattle.std.proofs.Common.{refl, sym, subst, ap}
use Rattle.core_sides.specs.CoreWords.{WaveSide}
use Rattle.coupling_core.proofs.JudgeEvents.{faulted_given}
use Rattle.core_stores.proofs.Turns.{stores_same}
use Rattle.coupling_core.specs.Heard.{side_heard}
use Rattle.coupling_core.proofs.judging.hear.Goals as goal

pub returns-in-Some-clause-stores : goal.returns-in-Some-clause-stores
returns-in-Some-clause-stores c = λ state are posted.
    stores_same c.args.plan.now _ state c.args.p (side_heard c.args.last (state c.args.p)) (faulted_given c.args.last c.in-Some.fault (state c.args.p) c.in-Some.is) are
