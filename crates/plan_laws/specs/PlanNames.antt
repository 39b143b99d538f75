-- The names of what a plan has, by their numbers. The project's own.
use Rattle.std.specs.Prelude.{ℕ, List, [], slice_get, slice_index_or}
use Rattle.std.specs.Option.{option_map_or}
use Rattle.cpl_plan.specs.PlanTests.{part_names, mesh_names, data_names}
use Rattle.cpl_plan.specs.declared.parts.PlanParts.{PlanParts}

-- the name of the item of a number; where there is none, an empty one

abbrev pub part_name : PlanParts → ℕ → List ℕ
part_name plan part = slice_index_or (part_names plan) part []

abbrev pub mesh_name : PlanParts → ℕ → List ℕ
mesh_name plan mesh = slice_index_or (mesh_names plan) mesh []

abbrev pub data_name : PlanParts → ℕ → List ℕ
data_name plan data_id = slice_index_or (data_names plan) data_id []

-- the name of the participant that provides a mesh
abbrev pub owner_name : PlanParts → ℕ → List ℕ
owner_name plan mesh = option_map_or (λ m. part_name plan m.owner) (slice_get plan.meshes mesh) []

-- the name of the data that an exchange carries
abbrev pub carried_name : PlanParts → ℕ → List ℕ
carried_name plan exchange = option_map_or (λ e. data_name plan e.data_id) (slice_get plan.exchanges exchange) []
