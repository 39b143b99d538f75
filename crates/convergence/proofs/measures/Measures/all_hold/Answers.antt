use Rattle.std.proofs.Common.{sym, ◌∙◌}
use Rattle.convergence.specs.Holds.{holds}
use Rattle.convergence.proofs.Scans.{list_all-next, list_all-fails}
use Rattle.convergence.proofs.measures.Measures.all_hold.Goals as goal

pub loop-place-preserved : goal.loop-place-preserved
loop-place-preserved c =
    list_all-next holds c.args.self.now c.loop-place.place c.at.result c.at.ensures (sym c.holds.ensures ∙ c.if-not-holds.false) c.loop-place.invariant

pub returns-then-not-holds : goal.returns-then-not-holds
returns-then-not-holds c =
    list_all-fails holds c.args.self.now c.loop-place.place c.at.result c.at.ensures (sym c.holds.ensures ∙ c.if-not-holds.true) c.loop-place.invariant
