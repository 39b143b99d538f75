-- A solver that writes sums of its values too. From the coupling documentation's summation action; the fault is the project's own.
use Rattle.std.specs.Prelude.{List, if◌then◌else◌}
use Rattle.solver_trait.specs.Behaviour.{Behaviour, Next, goes_on, faults}
use Rattle.data_actions.specs.declared.sums.Sum.{Sum}
use Rattle.data_actions.specs.Fit.{fit}
use Rattle.data_actions.specs.SummedValues.{summed}

-- what a step of the solver leads to with its sums: a fault stays, and a sum that is no Value faults with code 4
abbrev pub summed_next : {State : Type 0} → List Sum → Next State → Next State
summed_next sums (faults code) = faults code
summed_next sums (goes_on state writes) = if fit sums writes then goes_on state (summed sums writes) else faults 4

-- the solver, but for what it writes: each value at a target is the sum of the source values, and at the first writes
-- the Value that is nearest to it
abbrev pub SummedSolver : {State : Type 0} → Behaviour State → List Sum → Behaviour State
SummedSolver solver sums =
    record {
      read_len = solver.read_len;
      write_len = solver.write_len;
      pick = solver.pick;
      reads_at_end = solver.reads_at_end;
      first = λ state. summed sums (solver.first state);
      next = λ state ticks reads. summed_next sums (solver.next state ticks reads);
    }
