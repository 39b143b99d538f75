-- The nodes of a window: each group of participants is one, and each participant in no group is one by itself. The project's own.
use Rattle.std.specs.Prelude.{◌≡◌, ℕ, ◌<◌, nat_lt, ◌==◌, Bool, not, ◌&&◌, if◌then◌else◌, List, [], ◌∷◌, All, Contains, length, slice_index_or}
use Rattle.std.specs.List.{list_any}
use Rattle.plan_order.specs.declared.node.Node.{Node}
use Rattle.plan_order.specs.declared.node.Node.TheVariants.{Single, Group}

-- whether a participant is in one of the groups
abbrev pub is_grouped : List (List ℕ) → ℕ → Bool
is_grouped groups part = list_any (λ group. list_any (λ member. member == part) group) groups

-- the members of a node; no node has none
abbrev pub members_of : ℕ → List (List ℕ) → Node → List ℕ
members_of parts groups (Single part) = if nat_lt part parts && not (is_grouped groups part) then part ∷ [] else []
members_of parts groups (Group group) = slice_index_or groups group []

-- groups are disjoint and have members, each of them a participant
pub record AreGroups (parts : ℕ) (groups : List (List ℕ)) : Type 0 where
  pub filled : All (λ group. 0 < length group) groups
  pub in_range : All (λ group. All (λ part. part < parts) group) groups
  pub disjoint : (g h part : ℕ) → Contains (slice_index_or groups g []) part → Contains (slice_index_or groups h []) part → g ≡ h
