-- The nodes of a plan and which must be solved before which. From the coupling documentation's compositions of coupling schemes.
use Rattle.std.specs.Prelude.{ℕ, List, [], ◌∷◌, flat_map, if◌then◌else◌, slice_get, Option, Some, None}
use Rattle.std.specs.Option.{option_map_or}
use Rattle.cpl_plan.specs.ExchangeKinds.{is_implicit}
use Rattle.plan_order.specs.declared.node.Node.{Node}
use Rattle.plan_order.specs.declared.node.Node.TheVariants.{Single, Group}
use Rattle.cpl_plan.specs.declared.parts.PlanParts.{PlanParts}
use Rattle.cpl_plan.specs.declared.parts.Scheme.{Scheme}
use Rattle.cpl_plan.specs.declared.parts.SchemeKind.{SchemeKind}
use Rattle.cpl_plan.specs.declared.parts.SchemeKind.TheVariants.{SerialExplicit}

abbrev pub members_if_implicit : Scheme → List ℕ
members_if_implicit scheme = if is_implicit scheme.kind then scheme.members else []

abbrev pub itself_if_alone : ℕ → Option ℕ → List ℕ
itself_if_alone part None = part ∷ []
itself_if_alone part (Some _) = []

-- the members of a node, the first one first: those of an implicit scheme, or a participant that is in none; what is no node has none
abbrev pub node_members : PlanParts → Node → List ℕ
node_members plan (Group scheme) = option_map_or members_if_implicit (slice_get plan.schemes scheme) []
node_members plan (Single part) = option_map_or (λ p. itself_if_alone part p.group) (slice_get plan.parts part) []

-- the first and the second of a serial-explicit scheme
abbrev pub first_and_second : SchemeKind → List ℕ → List (ℕ × ℕ)
first_and_second SerialExplicit (first ∷ second ∷ []) = (first, second) ∷ []
first_and_second _ _ = []

-- in each serial-explicit scheme the first must be solved before the second
abbrev pub solved_before : PlanParts → List (ℕ × ℕ)
solved_before plan = flat_map (λ scheme. first_and_second scheme.kind scheme.members) plan.schemes
