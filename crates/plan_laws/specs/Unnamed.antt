-- A plan without its names: what is left when each is taken away. The project's own.
use Rattle.std.specs.Prelude.{[], map}
use Rattle.cpl_plan.specs.declared.parts.PlanParts.{PlanParts}
use Rattle.cpl_plan.specs.declared.parts.Part.{Part}
use Rattle.cpl_plan.specs.declared.parts.Watch.{Watch}
use Rattle.cpl_plan.specs.declared.parts.MeshPlan.{MeshPlan}
use Rattle.cpl_plan.specs.declared.parts.DataPlan.{DataPlan}

abbrev pub unnamed_watch : Watch → Watch
unnamed_watch watch = record watch { name = [] }

abbrev pub unnamed_part : Part → Part
unnamed_part part = record part { name = []; watches = map unnamed_watch part.watches }

abbrev pub unnamed_mesh : MeshPlan → MeshPlan
unnamed_mesh mesh = record mesh { name = [] }

abbrev pub unnamed_data : DataPlan → DataPlan
unnamed_data item = record item { name = [] }

abbrev pub unnamed : PlanParts → PlanParts
unnamed plan =
    record plan {
      parts = map unnamed_part plan.parts;
      meshes = map unnamed_mesh plan.meshes;
      data_list = map unnamed_data plan.data_list;
    }
