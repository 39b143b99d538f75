-- The order in which the nodes of a window are solved. The coupling documentation has a serial scheme's second wait for its first; which of several nodes that wait for none comes first is the project's own.
use Rattle.std.specs.Prelude.{ℕ, ◌<◌, ◌≤◌, List, [], ◌∷◌, ◌++◌, Contains, length}

-- the member that is listed first
abbrev pub first_member : List ℕ → ℕ
first_member [] = 0
first_member (first ∷ others) = first

module _ {N : Type 0} (members : N → List ℕ) (pairs : List (ℕ × ℕ)) where
  -- x stands before y where a pair has its first among the members of x and its second among those of y
  pub record StandsBefore (x y : N) : Type 0 where
    pub pair : ℕ × ℕ
    pub listed : Contains pairs pair
    pub from : Contains (members x) pair.0
    pub to : Contains (members y) pair.1

  -- a node is ready once all that stand before it are placed, until it is placed itself; a node is what has a member
  pub record IsReady (placed : List N) (node : N) : Type 0 where
    pub is_node : 0 < length (members node)
    pub unplaced : ¬ Contains placed node
    pub released : (other : N) → StandsBefore other node → Contains placed other

  -- of the ready nodes the next one has the least first member
  pub record IsNext (placed : List N) (node : N) : Type 0 where
    pub ready : IsReady placed node
    pub least : (other : N) → IsReady placed other → first_member (members node) ≤ first_member (members other)

  -- after those that are placed, at each place of the list stands the next node, and at its end every node is placed
  abbrev pub GoesOn : List N → List N → Type 0
  GoesOn placed [] = (node : N) → 0 < length (members node) → Contains placed node
  GoesOn placed (node ∷ rest) = IsNext placed node × GoesOn (placed ++ node ∷ []) rest

  -- the order of all nodes
  abbrev pub IsNodeOrder : List N → Type 0
  IsNodeOrder order = GoesOn [] order
