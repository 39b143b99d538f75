-- The first member of a node, as it is looked up. The project's own.
use Rattle.std.specs.Prelude.{ℕ, ◌<◌, ⊤, List, [], length, slice_index_or}
use Rattle.plan_order.specs.declared.node.Node.{Node}
use Rattle.plan_order.specs.declared.node.Node.TheVariants.{Single, Group}
use Rattle.plan_order.specs.NodeOrder.{first_member}

-- a group that a node names has a member
abbrev pub IsFilled : List (List ℕ) → Node → Type 0
IsFilled groups (Single part) = ⊤
IsFilled groups (Group group) = 0 < length (slice_index_or groups group [])

-- the first member of a group, or the participant that is a node by itself
abbrev pub head_of : List (List ℕ) → Node → ℕ
head_of groups (Single part) = part
head_of groups (Group group) = first_member (slice_index_or groups group [])
