-- A participant of a plan. From the coupling documentation's participants: the meshes that they provide and receive, what they write and read, their mappings and watch-points.
use Rattle.std.specs.Prelude.{ℕ, Bool, true, false, ◌&&◌, List, map, position, Option}
use Rattle.cpl_config.specs.declared.kind_words.Direction.{Direction}
use Rattle.cpl_config.specs.declared.kind_words.Direction.TheVariants.{Read, Write}
use Rattle.cpl_config.specs.declared.kind_words.Constraint.{Constraint}
use Rattle.cpl_config.specs.declared.kind_words.Constraint.TheVariants.{Consistent, Conservative}
use Rattle.cpl_config.specs.declared.kind_words.MapWord.{MapWord}
use Rattle.cpl_config.specs.declared.kind_words.MapWord.TheVariants.{NearestNeighbor, NearestProjection}
use Rattle.cpl_config.specs.declared.config.Config.{Config}
use Rattle.cpl_config.specs.declared.config.PartTable.{PartTable}
use Rattle.cpl_config.specs.declared.config.DataEntry.{DataEntry}
use Rattle.cpl_config.specs.declared.config.MapEntry.{MapEntry}
use Rattle.cpl_config.specs.declared.config.WatchEntry.{WatchEntry}
use Rattle.cpl_plan.specs.declared.parts.Part.{Part}
use Rattle.cpl_plan.specs.declared.parts.PlanEntry.{PlanEntry}
use Rattle.cpl_plan.specs.declared.parts.MapPlan.{MapPlan}
use Rattle.cpl_plan.specs.declared.parts.Watch.{Watch}
use Rattle.config_rules.specs.Members.{is_implicit, is_member}
use Rattle.scheme_parts.specs.NumbersOf.{data_number, mesh_number}

abbrev pub is_reading : Direction → Bool
is_reading Read = true
is_reading Write = false

abbrev pub is_conservative : Constraint → Bool
is_conservative Consistent = false
is_conservative Conservative = true

abbrev pub is_projection : MapWord → Bool
is_projection NearestNeighbor = false
is_projection NearestProjection = true

abbrev pub entry_of : Config → DataEntry → PlanEntry
entry_of config entry = record { data_id = data_number config entry.data_name; mesh = mesh_number config entry.mesh }

abbrev pub map_of : Config → MapEntry → MapPlan
map_of config entry = record {
  reading = is_reading entry.direction;
  from = mesh_number config entry.from;
  to = mesh_number config entry.to;
  conservative = is_conservative entry.constraint;
  projection = is_projection entry.method;
}

abbrev pub watch_of : Config → WatchEntry → Watch
watch_of config entry = record { name = entry.name; mesh = mesh_number config entry.mesh; at = entry.at }

-- the implicit scheme of which a participant is a member
abbrev pub group_of : Config → List ℕ → Option ℕ
group_of config name = position (λ table. is_implicit table && is_member name table) config.scheme

abbrev pub part_of : Config → PartTable → Part
part_of config table = record {
  name = table.name;
  provides = map (mesh_number config) table.provides;
  receives = map (λ entry. mesh_number config entry.mesh) table.receives;
  writes = map (entry_of config) table.write;
  reads = map (entry_of config) table.read;
  maps = map (map_of config) table.map;
  watches = map (watch_of config) table.watch;
  group = group_of config table.name;
}
