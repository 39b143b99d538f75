use Rattle.std.proofs.Common.{sym, ◌∙◌}
use Rattle.line_solvers.proofs.Checks.{checked-goes, checked-reaches}
use Rattle.line_solvers.proofs.line.Line.go_on.Goals as goal

pub returns-then-reaches-clause-cause : goal.returns-then-reaches-clause-cause
returns-then-reaches-clause-cause c =
    let reached = rw c.as_slice.ensures.value at (sym c.reaches.ensures ∙ c.if-reaches.true) in
    rw (← c.self.view_is) (checked-reaches c.self.inside.forbid c.self.inside.out.items c.args.next.items c.requires.range reached)

pub returns-clause-goes : goal.returns-clause-goes
returns-clause-goes c =
    let below = rw c.as_slice.ensures.value at (sym c.reaches.ensures ∙ c.if-reaches.false) in
    let writes = rw (c.as_slice-2.ensures.value, c.as_slice-3.ensures.value) at c.write_components.ensures.written in
    rw (← c.self.view_is, writes) (checked-goes c.self.inside.forbid c.self.inside.out.items c.args.next.items c.requires.range below)
