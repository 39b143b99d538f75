-- The answers of a solver's step. The project's own.
use Rattle.std.specs.Prelude.{◌≡◌}
use Rattle.solver_trait.specs.Behaviour.{Next, faults}
use Rattle.solver_trait.specs.declared.StepErr.{StepErr}
use Rattle.solver_trait.specs.declared.StepErr.TheVariants.{Fault, Memory}

-- a fault is answered only with the code of the fault that the step leads to; memory may run out at any step
abbrev pub IsCauseOf : {State : Type 0} → Next State → StepErr → Type 0
IsCauseOf next (Fault code) = next ≡ faults code
IsCauseOf _ Memory = Unit {0}
