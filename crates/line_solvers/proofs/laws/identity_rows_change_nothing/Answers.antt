use Rattle.line_solvers.proofs.RestingSolvers.{identity-component, identity-state}
use Rattle.line_solvers.proofs.laws.identity_rows_change_nothing.Goals as goal

pub returns-clause-component : goal.returns-clause-component
returns-clause-component c = identity-component

pub returns-clause-state : goal.returns-clause-state
returns-clause-state c = identity-state
