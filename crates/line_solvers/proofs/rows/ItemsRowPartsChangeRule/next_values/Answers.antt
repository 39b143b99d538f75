use Rattle.line_solvers.proofs.rows.ItemsRowPartsChangeRule.next_values.Goals as goal

pub returns-clause-cause : goal.returns-clause-cause
returns-clause-cause c = λ forbid out. rw c.as_slice.ensures at (c.next_values.ensures.cause forbid out)
