-- The spec and the state of a shipped solver. The project's own.
use Rattle.std.specs.Prelude.{List, ℤ}
use Rattle.line_solvers.specs.declared.line_solver.LineSolver.{LineSolver}
use Rattle.line_solvers.specs.declared.line_solver.LineSolver.TheVariants.{Rows, Rod, Spring, Recorded}
use Rattle.line_solvers.specs.LineMeaning.{LineSpec}

abbrev pub spec_of : LineSolver → LineSpec
spec_of (Rows rows) = rows.spec
spec_of (Rod rod) = rod.spec
spec_of (Spring spring) = spring.spec
spec_of (Recorded recorded) = recorded.spec

abbrev pub state_of : LineSolver → List ℤ
state_of (Rows rows) = rows.state
state_of (Rod rod) = rod.state
state_of (Spring spring) = spring.state
state_of (Recorded recorded) = recorded.state
