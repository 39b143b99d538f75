-- A mesh of a plan. From the coupling documentation's meshes, each of which one participant provides.
use Rattle.std.specs.Prelude.{ℕ, List, map, position, unsigned_abs, unwrap_or}
use Rattle.cpl_config.specs.declared.config.Config.{Config}
use Rattle.cpl_config.specs.declared.config.MeshTable.{MeshTable}
use Rattle.cpl_plan.specs.declared.parts.MeshPlan.{MeshPlan}
use Rattle.mesh_rules.specs.Named.{provides}
use Rattle.scheme_parts.specs.NumbersOf.{data_number}

-- the participant that provides the mesh of this name; 0 where none does
abbrev pub owner_of : Config → List ℕ → ℕ
owner_of config mesh = unwrap_or (position (λ table. provides table mesh) config.participant) 0

abbrev pub mesh_of : Config → MeshTable → MeshPlan
mesh_of config table = record {
  name = table.name;
  dimensions = unsigned_abs table.dimensions;
  owner = owner_of config table.name;
  data_list = map (data_number config) table.data_list;
}
