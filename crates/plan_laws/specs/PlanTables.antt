-- The data, meshes and participants of a plan, written as tables of a configuration. The project's own.
use Rattle.std.specs.Prelude.{ℕ, if◌then◌else◌, [], map, pos}
use Rattle.cpl_plan.specs.declared.parts.PlanParts.{PlanParts}
use Rattle.cpl_plan.specs.declared.parts.DataPlan.{DataPlan}
use Rattle.cpl_plan.specs.declared.parts.MeshPlan.{MeshPlan}
use Rattle.cpl_plan.specs.declared.parts.Part.{Part}
use Rattle.cpl_plan.specs.declared.parts.PlanEntry.{PlanEntry}
use Rattle.cpl_plan.specs.declared.parts.MapPlan.{MapPlan}
use Rattle.cpl_plan.specs.declared.parts.Watch.{Watch}
use Rattle.cpl_config.specs.declared.kind_words.DataKind.TheVariants.{Scalar, Vector}
use Rattle.cpl_config.specs.declared.kind_words.Direction.TheVariants.{Read, Write}
use Rattle.cpl_config.specs.declared.kind_words.Constraint.TheVariants.{Consistent, Conservative}
use Rattle.cpl_config.specs.declared.kind_words.MapWord.TheVariants.{NearestNeighbor, NearestProjection}
use Rattle.cpl_config.specs.declared.config.DataTable.{DataTable}
use Rattle.cpl_config.specs.declared.config.MeshTable.{MeshTable}
use Rattle.cpl_config.specs.declared.config.PartTable.{PartTable}
use Rattle.cpl_config.specs.declared.config.ReceivesEntry.{ReceivesEntry}
use Rattle.cpl_config.specs.declared.config.DataEntry.{DataEntry}
use Rattle.cpl_config.specs.declared.config.MapEntry.{MapEntry}
use Rattle.cpl_config.specs.declared.config.WatchEntry.{WatchEntry}
use Rattle.plan_laws.specs.PlanNames.{mesh_name, data_name, owner_name}

abbrev pub data_table : DataPlan → DataTable
data_table item = record { name = item.name; kind = if item.vector then Vector else Scalar; degree = pos item.degree }

abbrev pub mesh_table : PlanParts → MeshPlan → MeshTable
mesh_table plan mesh = record { name = mesh.name; dimensions = pos mesh.dimensions; data_list = map (data_name plan) mesh.data_list }

-- a mesh that is received, from the one that provides it
abbrev pub received_entry : PlanParts → ℕ → ReceivesEntry
received_entry plan mesh = record { mesh = mesh_name plan mesh; from = owner_name plan mesh }

abbrev pub data_entry : PlanParts → PlanEntry → DataEntry
data_entry plan entry = record { data_name = data_name plan entry.data_id; mesh = mesh_name plan entry.mesh }

abbrev pub map_entry : PlanParts → MapPlan → MapEntry
map_entry plan mapping =
    record {
      direction = if mapping.reading then Read else Write;
      from = mesh_name plan mapping.from;
      to = mesh_name plan mapping.to;
      constraint = if mapping.conservative then Conservative else Consistent;
      method = if mapping.projection then NearestProjection else NearestNeighbor;
    }

abbrev pub watch_entry : PlanParts → Watch → WatchEntry
watch_entry plan watch = record { name = watch.name; mesh = mesh_name plan watch.mesh; at = watch.at }

-- a participant, whose case file has its name
abbrev pub part_table : PlanParts → Part → PartTable
part_table plan part =
    record {
      name = part.name;
      case = part.name;
      provides = map (mesh_name plan) part.provides;
      receives = map (received_entry plan) part.receives;
      write = map (data_entry plan) part.writes;
      read = map (data_entry plan) part.reads;
      map = map (map_entry plan) part.maps;
      watch = map (watch_entry plan) part.watches;
      action = [];
    }
