-- How a participant ends, and what is judged of an iteration. The project's own, after the coupling documentation's convergence measures.

pub data Ending (Fault : Type 0) : Type 0 where
  -- after its last window
  done : Ending Fault
  -- before it
  early : Ending Fault
  -- by its own fault, or that of its scheme
  faulted : Fault → Ending Fault
  no_memory : Ending Fault
  -- one that it needs ended before giving what is needed
  cut : Ending Fault

pub data Judgement (Fault : Type 0) : Type 0 where
  -- the window is repeated
  again : Judgement Fault
  -- the iteration is accepted, as it has converged
  converged : Judgement Fault
  -- it is accepted, as the last one
  at_limit : Judgement Fault
  -- the scheme faults
  refused : Fault → Judgement Fault
