-- The names by which a participant's calls speak of its meshes and of data: each stands for a place. After the coupling documentation's calls; places from 0 are the project's own.
use Rattle.std.specs.Prelude.{ℕ, List, [], map, position, slice_get, Option}
use Rattle.std.specs.Option.{option_map_or}
use Rattle.std.specs.Str.{bytes_eq}
use Rattle.cpl_plan.specs.PlanTests.{data_names}
use Rattle.cpl_plan.specs.declared.parts.PlanParts.{PlanParts}
use Rattle.wave_coupling.specs.Known.{provided_by}

-- the names that may be called: those of the provided meshes, in order, and those of all data
pub record Called : Type 0 where
  pub meshes : List (List ℕ)
  pub data_items : List (List ℕ)

abbrev pub mesh_name : PlanParts → (mesh : ℕ) → List ℕ
mesh_name plan mesh = option_map_or (λ m. m.name) (slice_get plan.meshes mesh) []

abbrev pub provided_names : PlanParts → (part : ℕ) → List (List ℕ)
provided_names plan part = map (mesh_name plan) (provided_by plan part part)

abbrev pub called_in : PlanParts → (part : ℕ) → Called
called_in plan part = record { meshes = provided_names plan part; data_items = data_names plan }

abbrev pub place_of_name : List (List ℕ) → (name : List ℕ) → Option ℕ
place_of_name names name = position (λ other. bytes_eq other name) names

-- the place of the mesh of a name among those that a participant provides
abbrev pub place_named : PlanParts → (part : ℕ) → (name : List ℕ) → Option ℕ
place_named plan part name = place_of_name (provided_names plan part) name

-- the number of the data of a name
abbrev pub data_named : PlanParts → (name : List ℕ) → Option ℕ
data_named plan name = place_of_name (data_names plan) name
