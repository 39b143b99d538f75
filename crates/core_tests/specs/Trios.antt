-- A plan of three participants: two iterate under a serial-implicit scheme and exchange a scalar each way, and a third waits for what the first completes, as the second of a serial-explicit scheme. The project's own.
use Rattle.std.specs.Prelude.{Bool, false, pos, List, [], ◌∷◌, Some, None}
use Rattle.plan_order.specs.declared.node.Node.TheVariants.{Single, Group}
use Rattle.cpl_plan.specs.ExamplePlan.{example_part, example_mesh, example_data, example_exchange, example_measure, entry, read_from, write_onto}
use Rattle.cpl_plan.specs.declared.parts.Accel.{Accel}
use Rattle.cpl_plan.specs.declared.parts.Accel.TheVariants.{None as NoAccel, Aitken}
use Rattle.cpl_plan.specs.declared.parts.Kind.TheVariants.{Fresh, FreshIter, Iterated}
use Rattle.cpl_plan.specs.declared.parts.MeasureKind.TheVariants.{Absolute}
use Rattle.cpl_plan.specs.declared.parts.Part.{Part}
use Rattle.cpl_plan.specs.declared.parts.PlanParts.{PlanParts}
use Rattle.cpl_plan.specs.declared.parts.Scheme.{Scheme}
use Rattle.cpl_plan.specs.declared.parts.SchemeKind.TheVariants.{SerialExplicit, SerialImplicit}
use Rattle.cpl_plan.specs.declared.parts.WindowMethod.TheVariants.{Fixed}

abbrev pub trio_parts : List Part
trio_parts =
    example_part 0 [] (entry 0 0 ∷ []) (entry 1 0 ∷ []) [] [] (Some 0)
    ∷ example_part 1 (0 ∷ []) (entry 1 1 ∷ []) (entry 0 1 ∷ []) (read_from 0 1 ∷ write_onto 1 0 ∷ []) [] (Some 0)
    ∷ example_part 2 (0 ∷ []) [] (entry 0 2 ∷ []) (read_from 0 2 ∷ []) [] None ∷ []

-- a measure that may be strict looks at what the second sends, which may be accelerated
abbrev pub trio_schemes : (strict : Bool) → Accel → List Scheme
trio_schemes strict accel =
    record {
      kind = SerialImplicit;
      members = 0 ∷ 1 ∷ [];
      min = 1;
      max = 3;
      measures = example_measure Absolute 1 false strict ∷ [];
      accel = accel;
    }
    ∷ record { kind = SerialExplicit; members = 0 ∷ 2 ∷ []; min = 1; max = 1; measures = []; accel = NoAccel } ∷ []

-- three windows, of which the last is shorter
abbrev pub trio : (strict : Bool) → Accel → PlanParts
trio strict accel =
    record {
      method = Fixed;
      window = 10;
      end_time = 25;
      most_windows = 3;
      parts = trio_parts;
      meshes = example_mesh 0 2 (0 ∷ 1 ∷ []) ∷ example_mesh 1 2 (0 ∷ 1 ∷ []) ∷ example_mesh 2 2 (0 ∷ []) ∷ [];
      data_list = example_data 0 false 1 ∷ example_data 1 false 1 ∷ [];
      schemes = trio_schemes strict accel;
      exchanges =
          example_exchange 0 0 0 1 0 FreshIter None (Some 0) ∷ example_exchange 1 0 1 0 0 Iterated (Some 1) None
          ∷ example_exchange 0 0 0 2 1 Fresh None (Some 0) ∷ [];
      nodes = Group 0 ∷ Single 2 ∷ [];
    }

-- the first factor of the accelerated one is a half
abbrev pub halved : Accel
halved = Aitken (pos 500000) (1 ∷ [])
