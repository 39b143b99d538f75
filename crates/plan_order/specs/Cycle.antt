-- Cycles of nodes, which have no order. The project's own.
use Rattle.std.specs.Prelude.{ℕ, ◌+◌, ◌<◌, List, [], ◌∷◌, length, take}
use Rattle.plan_order.specs.NodeOrder.{StandsBefore}

module _ {N : Type 0} (members : N → List ℕ) (pairs : List (ℕ × ℕ)) where
  -- a walk from x by way of the listed nodes to y: each stands before the next one
  abbrev pub Leads : N → List N → N → Type 0
  Leads x [] y = StandsBefore members pairs x y
  Leads x (next ∷ rest) y = StandsBefore members pairs x next × Leads next rest y

  -- a walk of at least one step comes back to where it began
  pub record HasCycle : Type 0 where
    pub start : N
    pub between : List N
    pub walk : Leads start between start

-- the pairs up to this one, itself included, have a cycle, and those before it have none
pub record ClosesCycle {N : Type 0} (members : N → List ℕ) (pairs : List (ℕ × ℕ)) (at : ℕ) : Type 0 where
  pub in_range : at < length pairs
  pub closed : HasCycle members (take (at + 1) pairs)
  pub first : ¬ HasCycle members (take at pairs)
