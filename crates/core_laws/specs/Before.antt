-- What comes before a participant's turn in the order in which a window is solved. The coupling documentation has a serial scheme's second wait for its first; the words are the project's own.
use Rattle.std.specs.Prelude.{◌≡◌, ℕ, List, ◌∷◌, ◌++◌, Contains}
use Rattle.plan_order.specs.declared.node.Node.{Node}
use Rattle.plan_order.specs.declared.node.Node.TheVariants.{Group}
use Rattle.cpl_plan.specs.PlanNodes.{node_members}
use Rattle.cpl_plan.specs.declared.parts.PlanParts.{PlanParts}

-- one item of a list stands before another
pub record ComesBefore {X : Type 0} (xs : List X) (one other : X) : Type 0 where
  pub before : List X
  pub after : List X
  pub stands : xs ≡ before ++ other ∷ after
  pub earlier : Contains before one

-- the node of one participant is solved before that of another
pub record IsInEarlierNode (plan : PlanParts) (one other : ℕ) : Type 0 where
  pub node : Node
  pub next : Node
  pub member : Contains (node_members plan node) one
  pub waits : Contains (node_members plan next) other
  pub order : ComesBefore plan.nodes node next

-- one participant comes before another among the members of an implicit scheme
pub record IsEarlierMember (plan : PlanParts) (one other : ℕ) : Type 0 where
  pub scheme : ℕ
  pub order : ComesBefore (node_members plan (Group scheme)) one other
