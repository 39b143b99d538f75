use Rattle.std.proofs.Common.{sym, ◌∙◌}
use Rattle.convergence.specs.Verdict.{is_sufficient}
use Rattle.convergence.proofs.Scans.{list_any-next, list_any-passes}
use Rattle.convergence.proofs.measures.Measures.one_suffices.Goals as goal

pub loop-place-preserved : goal.loop-place-preserved
loop-place-preserved c =
    list_any-next is_sufficient c.args.self.now c.loop-place.place c.at.result c.at.ensures (sym c.is_sufficient.ensures ∙ c.if-is_sufficient.false) c.loop-place.invariant

pub returns-then-is_sufficient : goal.returns-then-is_sufficient
returns-then-is_sufficient c =
    list_any-passes is_sufficient c.args.self.now c.loop-place.place c.at.result c.at.ensures (sym c.is_sufficient.ensures ∙ c.if-is_sufficient.true) c.loop-place.invariant
