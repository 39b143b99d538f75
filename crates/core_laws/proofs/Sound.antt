-- What the proofs use of a frame; a valid plan's frame has it.
use Rattle.std.proofs.Common.{◌≡◌, ℕ, ◌+◌, ◌-◌, ◌<◌, ◌≤◌, ◌⊎◌, List, [], ◌∷◌, ◌++◌, Option, Some, None, IsTrue, IsSome, Contains}
use Rattle.plan_order.specs.declared.node.Node.{Node}
use Rattle.plan_order.specs.declared.node.Node.TheVariants.{Single, Group}
use Rattle.cpl_plan.specs.declared.words.Need.{Need}
use Rattle.cpl_plan.specs.declared.words.Item.TheVariants.{Completed, Posted}
use Rattle.coupled_loop.specs.Given.{Look}
use Rattle.coupled_loop.specs.Frames.{Frame}
use Rattle.coupled_loop.specs.Settled.{Extends, IsInOrder, AreNeedsGiven}

abbrev pub node_by : (part : ℕ) → Option ℕ → Node
node_by part None = Single part
node_by part (Some scheme) = Group scheme

module _ {Post Inputs Fault : Type 0} (frame : Frame Post Inputs Fault) where
  -- the node of a participant, and the participants of a node in order
  abbrev pub node_of : (part : ℕ) → Node
  node_of part = node_by part (frame.group part)

  abbrev pub parts_in : Node → List ℕ
  parts_in (Single part) = part ∷ []
  parts_in (Group scheme) = frame.members scheme

  -- a need of window w is of a member of a node before that of the participant
  pub record IsOfEarlierNode (part w : ℕ) (need : Need) : Type 0 where
    pub before : List Node
    pub after : List Node
    pub stands : frame.nodes ≡ before ++ node_of part ∷ after
    pub earlier : Contains before (node_of need.owner)
    pub item : need.item ≡ Completed w

  -- a need of iteration k is of an earlier member of the same scheme
  pub record IsOfEarlierMember (part w k : ℕ) (need : Need) : Type 0 where
    pub scheme : ℕ
    pub group : frame.group part ≡ Some scheme
    pub before : List ℕ
    pub after : List ℕ
    pub stands : frame.members scheme ≡ before ++ part ∷ after
    pub earlier : Contains before need.owner
    pub item : need.item ≡ Posted w k

  pub record IsSound : Type 0 where
    pub some_windows : 1 ≤ frame.most_windows
    -- nodes stand once each, and each participant is in one of them
    pub nodes_once : (before after : List Node) (node : Node) → frame.nodes ≡ before ++ node ∷ after → (¬ Contains before node) × (¬ Contains after node)
    pub placed : (part : ℕ) → part < frame.parts → Contains frame.nodes (node_of part)
    pub inside : (part : ℕ) → part < frame.parts → Contains (parts_in (node_of part)) part
    pub of_node : (node : Node) (part : ℕ) → Contains frame.nodes node → Contains (parts_in node) part → (part < frame.parts) × (node_of part ≡ node)
    pub members_once : (scheme : ℕ) (before after : List ℕ) (part : ℕ) → Contains frame.nodes (Group scheme)
        → frame.members scheme ≡ before ++ part ∷ after → (¬ Contains before part) × (¬ Contains after part)
    pub iterations : (scheme : ℕ) → Contains frame.nodes (Group scheme) → 1 ≤ frame.most_iterations scheme
    -- what is asked for
    pub owners : (part owner : ℕ) → part < frame.parts → Contains (frame.owners part) owner → owner < frame.parts
    pub owners_of_needs : (part w k : ℕ) (need : Need) → part < frame.parts → Contains (frame.needs part w k) need → need.owner < frame.parts
    pub needs : (part w k : ℕ) (need : Need) → part < frame.parts → 1 ≤ w → 1 ≤ k → Contains (frame.needs part w k) need
        → (need.item ≡ Completed (w - 1)) ⊎ IsOfEarlierNode part w need ⊎ IsOfEarlierMember part w k need
    -- windows
    pub bounded : (f : Look Post) (w : ℕ) → IsTrue (frame.is_there f w) → (1 ≤ w) × (w ≤ frame.most_windows)
    pub first_told : (f g : Look Post) → frame.is_there f 1 ≡ frame.is_there g 1
    pub next_told : (f g : Look Post) (part w k : ℕ) → part < frame.parts → Extends f g → IsInOrder f → IsInOrder g
        → IsTrue (frame.is_there f w) → AreNeedsGiven frame f part w k → IsSome (f part (Completed w))
        → frame.is_there f (w + 1) ≡ frame.is_there g (w + 1)
