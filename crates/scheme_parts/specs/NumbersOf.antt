-- The numbers that stand for the names of a configuration: the places of what is declared, from 0. The project's own.
use Rattle.std.specs.Prelude.{ℕ, List, length, take, position, sum_by, unwrap_or}
use Rattle.std.specs.Str.{bytes_eq}
use Rattle.cpl_config.specs.declared.config.Config.{Config}
use Rattle.config_rules.specs.Circles.{number_of}

-- the data of this name; 0 where none have it
abbrev pub data_number : Config → List ℕ → ℕ
data_number config name = unwrap_or (position (λ table. bytes_eq table.name name) config.data_list) 0

-- the mesh of this name; 0 where none has it
abbrev pub mesh_number : Config → List ℕ → ℕ
mesh_number config name = unwrap_or (position (λ table. bytes_eq table.name name) config.mesh) 0

-- the participant of this name; 0 where none has it
abbrev pub part_number : Config → List ℕ → ℕ
part_number config name = number_of config name

-- exchanges are numbered over all schemes: those of a scheme come after those of the schemes before it
abbrev pub exchanges_before : Config → (scheme : ℕ) → ℕ
exchanges_before config scheme = sum_by (λ table. length table.exchange) (take scheme config.scheme)
