use Rattle.acceleration.specs.RelaxerState.{RemembersAsMany}
use Rattle.value_tests.proofs.relaxation.aitken_looks_back_in_its_window.Given as goal

abbrev pub invariant-loop-anew : goal.invariant-loop-anew
invariant-loop-anew g l = RemembersAsMany l.relaxer 2
