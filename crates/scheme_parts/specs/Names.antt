-- Names by their places. The project's own.
use Rattle.std.specs.Prelude.{◌≡◌, ℕ, List, map, position, unwrap_or}
use Rattle.std.specs.Str.{bytes_eq}
use Rattle.cpl_config.specs.declared.config.Config.{Config}

-- the place of a name, from 0; 0 where it is not there
abbrev pub number_in : List (List ℕ) → List ℕ → ℕ
number_in names name = unwrap_or (position (λ other. bytes_eq other name) names) 0

abbrev pub data_names : Config → List (List ℕ)
data_names config = map (λ table. table.name) config.data_list

abbrev pub mesh_names : Config → List (List ℕ)
mesh_names config = map (λ table. table.name) config.mesh

abbrev pub part_names : Config → List (List ℕ)
part_names config = map (λ table. table.name) config.participant

-- the names that a configuration declares
pub record AreNamesOf (config : Config) (data_items meshes parts : List (List ℕ)) : Type 0 where
  pub of_data : data_items ≡ data_names config
  pub of_meshes : meshes ≡ mesh_names config
  pub of_parts : parts ≡ part_names config
