-- Words for what the numbers of a plan say: who provides a mesh, who writes data, who is a member of a scheme. After the coupling documentation's configuration; the project's own in form.
use Rattle.std.specs.Prelude.{ℕ, if◌then◌else◌, Bool, true, false, ◌&&◌, not, nat_eq, nat_le, List, [], ◌∷◌, length, filter, map, slice_get, Option}
use Rattle.std.specs.List.{list_any, list_all, enumerate_from, range_with_len}
use Rattle.std.specs.Cmp.Lexicographic.{pointwise}
use Rattle.std.specs.Option.{option_map, option_map_or, option_and_then}
use Rattle.cpl_plan.specs.declared.parts.PlanParts.{PlanParts}
use Rattle.cpl_plan.specs.declared.parts.PlanEntry.{PlanEntry}
use Rattle.cpl_plan.specs.declared.parts.MeshPlan.{MeshPlan}
use Rattle.cpl_plan.specs.declared.parts.DataPlan.{DataPlan}
use Rattle.cpl_plan.specs.declared.parts.Exchange.{Exchange}

-- each item of a list, with its number, passes the test
abbrev pub each : {X : Type 0} → List X → (ℕ → X → Bool) → Bool
each xs test = list_all (λ entry. test entry.0 entry.1) (enumerate_from 0 xs)

-- there is an item of this number, and it passes the test
abbrev pub passes : {X : Type 0} → List X → ℕ → (X → Bool) → Bool
passes xs number test = option_map_or test (slice_get xs number) false

-- the number is one of these
abbrev pub is_among : ℕ → List ℕ → Bool
is_among n ns = list_any (λ m. nat_eq m n) ns

-- the numbers are this one alone
abbrev pub are_only : ℕ → List ℕ → Bool
are_only n ns = pointwise nat_eq (n ∷ []) ns

-- no two items are the same
abbrev pub are_distinct : {X : Type 0} → (X → X → Bool) → List X → Bool
are_distinct same [] = true
are_distinct same (x ∷ xs) = not (list_any (same x) xs) && are_distinct same xs

-- no number is below the one before it
abbrev pub never_fall : List ℕ → Bool
never_fall [] = true
never_fall (n ∷ ns) = list_all (nat_le n) ns && never_fall ns

-- the numbers of a list's items
abbrev pub numbers : {X : Type 0} → List X → List ℕ
numbers xs = range_with_len 0 (length xs)

abbrev pub provides : PlanParts → ℕ → ℕ → Bool
provides plan part mesh = passes plan.parts part (λ p. is_among mesh p.provides)

abbrev pub receives : PlanParts → ℕ → ℕ → Bool
receives plan part mesh = passes plan.parts part (λ p. is_among mesh p.receives)

-- the participants that provide a mesh
abbrev pub providers : PlanParts → ℕ → List ℕ
providers plan mesh = filter (λ part. provides plan part mesh) (numbers plan.parts)

abbrev pub mesh_carries : PlanParts → ℕ → ℕ → Bool
mesh_carries plan mesh data_id = passes plan.meshes mesh (λ m. is_among data_id m.data_list)

abbrev pub have_equal_dimensions : PlanParts → ℕ → ℕ → Bool
have_equal_dimensions plan one other =
    passes plan.meshes one (λ m. passes plan.meshes other (λ n. nat_eq m.dimensions n.dimensions))

abbrev pub is_member : PlanParts → ℕ → ℕ → Bool
is_member plan scheme part = passes plan.schemes scheme (λ s. is_among part s.members)

-- the schemes of which a participant is a member
abbrev pub schemes_of : PlanParts → ℕ → List ℕ
schemes_of plan part = filter (λ scheme. is_member plan scheme part) (numbers plan.schemes)

-- the schemes in which two participants meet
abbrev pub schemes_of_both : PlanParts → (one other : ℕ) → List ℕ
schemes_of_both plan one other = filter (λ scheme. is_member plan scheme other) (schemes_of plan one)

-- the exchanges that bring data to a participant
abbrev pub feeders : PlanParts → ℕ → ℕ → List ℕ
feeders plan part data_id =
    filter (λ x. passes plan.exchanges x (λ e. nat_eq e.to part && nat_eq e.data_id data_id)) (numbers plan.exchanges)

-- the data that entries name
abbrev pub data_of : List PlanEntry → List ℕ
data_of entries = map (λ entry. entry.data_id) entries

-- how many components the data have at each vertex of a mesh
abbrev pub components : DataPlan → MeshPlan → ℕ
components data_item mesh = if data_item.vector then mesh.dimensions else 1

-- as many for data and a mesh by their numbers
abbrev pub components_on : PlanParts → (data_id mesh : ℕ) → Option ℕ
components_on plan data_id mesh =
    option_and_then (λ d. option_map (λ m. components d m) (slice_get plan.meshes mesh)) (slice_get plan.data_list data_id)

-- as many for an exchange, and none where its data or its mesh is not there
abbrev pub components_of : PlanParts → Exchange → ℕ
components_of plan e = option_map_or (λ n. n) (components_on plan e.data_id e.mesh) 0
