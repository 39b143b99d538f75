use Rattle.std.proofs.Common.{sym, ◌∙◌}
use Rattle.convergence.specs.Verdict.{is_failing}
use Rattle.convergence.proofs.Scans.{position-from_front, position-next, position-passes}
use Rattle.convergence.proofs.measures.Measures.first_failing.Goals as goal

pub loop-place-init : goal.loop-place-init
loop-place-init c = position-from_front is_failing c.args.self.now

pub loop-place-preserved : goal.loop-place-preserved
loop-place-preserved c =
    position-next is_failing c.args.self.now c.loop-place.place c.at.result c.at.ensures (sym c.is_failing.ensures ∙ c.if-is_failing.false) c.loop-place.invariant

pub returns-then-is_failing : goal.returns-then-is_failing
returns-then-is_failing c =
    position-passes is_failing c.args.self.now c.loop-place.place c.at.result c.at.ensures (sym c.is_failing.ensures ∙ c.if-is_failing.true) c.loop-place.invariant
