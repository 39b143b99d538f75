-- What is known of a coupling before it runs, whatever is exchanged. The project's own, after the coupling documentation's coupling schemes.
use Rattle.std.specs.Prelude.{ℕ, Bool, List, Option}
use Rattle.plan_order.specs.declared.node.Node.{Node}
use Rattle.cpl_plan.specs.declared.words.Need.{Need}
use Rattle.coupled_loop.specs.Given.{Look}
use Rattle.coupled_loop.specs.Endings.{Judgement}

pub record Frame (Post Inputs Fault : Type 0) : Type 0 where
  -- how many participants there are; they have the numbers below that
  pub parts : ℕ
  -- those whose meshes a participant receives, in order
  pub owners : ℕ → List ℕ
  -- the implicit scheme of which a participant is a member
  pub group : ℕ → Option ℕ
  -- the members of an implicit scheme, in order
  pub members : ℕ → List ℕ
  -- the nodes of a window, in the order in which they are solved
  pub nodes : List Node
  -- what a participant must be given before it takes its inputs in window w and iteration k
  pub needs : (part w k : ℕ) → List Need
  -- there are no more windows than this, and no more iterations of a scheme
  pub most_windows : ℕ
  pub most_iterations : ℕ → ℕ
  -- whether there is a window w, as far as is told by what was given
  pub is_there : Look Post → (w : ℕ) → Bool
  -- the inputs of a participant in window w and iteration k
  pub inputs : Look Post → (part w k : ℕ) → Inputs
  -- what a scheme's measures and its relaxation make of iteration k of window w
  pub judge : Look Post → (scheme w k : ℕ) → Judgement Fault
