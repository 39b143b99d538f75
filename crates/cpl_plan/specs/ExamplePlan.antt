-- A plan with each kind of scheme, in which implicit schemes are composed with explicit ones. The project's own.
use Rattle.std.specs.Prelude.{ℕ, ◌+◌, Bool, true, false, pos, List, [], ◌∷◌, Option, Some, None}
use Rattle.plan_order.specs.declared.node.Node.TheVariants.{Single, Group}
use Rattle.cpl_plan.specs.declared.parts.PlanParts.{PlanParts}
use Rattle.cpl_plan.specs.declared.parts.WindowMethod.TheVariants.{Fixed}
use Rattle.cpl_plan.specs.declared.parts.Part.{Part}
use Rattle.cpl_plan.specs.declared.parts.PlanEntry.{PlanEntry}
use Rattle.cpl_plan.specs.declared.parts.MapPlan.{MapPlan}
use Rattle.cpl_plan.specs.declared.parts.Watch.{Watch}
use Rattle.cpl_plan.specs.declared.parts.MeshPlan.{MeshPlan}
use Rattle.cpl_plan.specs.declared.parts.DataPlan.{DataPlan}
use Rattle.cpl_plan.specs.declared.parts.Exchange.{Exchange}
use Rattle.cpl_plan.specs.declared.parts.Kind.{Kind}
use Rattle.cpl_plan.specs.declared.parts.Kind.TheVariants.{Lag, Fresh, FreshIter, Iterated}
use Rattle.cpl_plan.specs.declared.parts.Scheme.{Scheme}
use Rattle.cpl_plan.specs.declared.parts.SchemeKind.TheVariants.{SerialExplicit, ParallelExplicit, SerialImplicit, ParallelImplicit, Multi}
use Rattle.cpl_plan.specs.declared.parts.Measure.{Measure}
use Rattle.cpl_plan.specs.declared.parts.MeasureKind.{MeasureKind}
use Rattle.cpl_plan.specs.declared.parts.MeasureKind.TheVariants.{Absolute, Relative, ResidualRelative}
use Rattle.cpl_plan.specs.declared.words.Need.{Need}
use Rattle.cpl_plan.specs.declared.words.Item.TheVariants.{Completed, Posted}
use Rattle.cpl_plan.specs.declared.parts.Accel.TheVariants.{None as NoAccel, Constant, Aitken}

-- participant n, named by the letter after A, provides mesh n
abbrev pub example_part : (n : ℕ) → List ℕ → List PlanEntry → List PlanEntry → List MapPlan → List Watch → Option ℕ → Part
example_part n received written read maps watches group =
    record {
      name = (65 + n) ∷ [];
      provides = n ∷ [];
      receives = received;
      writes = written;
      reads = read;
      maps = maps;
      watches = watches;
      group = group;
    }

abbrev pub entry : (data_id mesh : ℕ) → PlanEntry
entry data_id mesh = record { data_id = data_id; mesh = mesh }

abbrev pub read_from : (from to : ℕ) → MapPlan
read_from from to = record { reading = true; from = from; to = to; conservative = false; projection = false }

abbrev pub write_onto : (from to : ℕ) → MapPlan
write_onto from to = record { reading = false; from = from; to = to; conservative = true; projection = false }

abbrev pub example_parts : List Part
example_parts =
    example_part 0 (7 ∷ []) (entry 0 0 ∷ []) (entry 1 0 ∷ entry 5 0 ∷ []) (read_from 7 0 ∷ [])
    (record { name = 116 ∷ 105 ∷ 112 ∷ []; mesh = 0; at = pos 0 ∷ pos 0 ∷ [] } ∷ []) (Some 0)
    ∷ example_part 1 (0 ∷ 2 ∷ []) (entry 1 1 ∷ []) (entry 0 1 ∷ entry 6 1 ∷ []) (read_from 0 1 ∷ write_onto 1 0 ∷ read_from 2 1 ∷ []) [] (Some 0)
    ∷ example_part 2 (3 ∷ []) (entry 6 2 ∷ []) (entry 2 2 ∷ []) (read_from 3 2 ∷ []) [] (Some 1)
    ∷ example_part 3 [] (entry 2 3 ∷ []) [] [] [] (Some 1)
    ∷ example_part 4 (6 ∷ []) (entry 3 4 ∷ []) [] (write_onto 4 6 ∷ []) [] (Some 2)
    ∷ example_part 5 (6 ∷ []) (entry 4 5 ∷ []) [] (write_onto 5 6 ∷ []) [] (Some 2)
    ∷ example_part 6 [] [] (entry 3 6 ∷ entry 4 6 ∷ []) [] [] (Some 2)
    ∷ example_part 7 [] (entry 5 7 ∷ []) [] [] [] None
    ∷ []

abbrev pub example_mesh : (n dimensions : ℕ) → List ℕ → MeshPlan
example_mesh n dimensions carried =
    record { name = 77 ∷ (65 + n) ∷ []; dimensions = dimensions; owner = n; data_list = carried }

abbrev pub example_meshes : List MeshPlan
example_meshes =
    example_mesh 0 2 (0 ∷ 1 ∷ 5 ∷ []) ∷ example_mesh 1 2 (0 ∷ 1 ∷ 6 ∷ []) ∷ example_mesh 2 2 (2 ∷ 6 ∷ [])
    ∷ example_mesh 3 2 (2 ∷ []) ∷ example_mesh 4 3 (3 ∷ []) ∷ example_mesh 5 3 (4 ∷ [])
    ∷ example_mesh 6 3 (3 ∷ 4 ∷ []) ∷ example_mesh 7 2 (5 ∷ []) ∷ []

abbrev pub example_data : (n : ℕ) → Bool → (degree : ℕ) → DataPlan
example_data n vector degree = record { name = 100 ∷ (48 + n) ∷ []; vector = vector; degree = degree }

abbrev pub example_data_list : List DataPlan
example_data_list =
    example_data 0 false 1 ∷ example_data 1 false 1 ∷ example_data 2 true 1 ∷ example_data 3 true 1
    ∷ example_data 4 false 0 ∷ example_data 5 false 1 ∷ example_data 6 false 1 ∷ []

abbrev pub example_measure : MeasureKind → (exchange : ℕ) → (suffices strict : Bool) → Measure
example_measure kind exchange suffices strict =
    record { kind = kind; exchange = exchange; limit = pos 0; suffices = suffices; strict = strict }

abbrev pub example_schemes : List Scheme
example_schemes =
    record {
      kind = SerialImplicit;
      members = 0 ∷ 1 ∷ [];
      min = 2;
      max = 20;
      measures = example_measure Absolute 1 false true ∷ example_measure ResidualRelative 0 true false ∷ [];
      accel = Aitken (pos 500000) (1 ∷ []);
    }
    ∷ record {
      kind = ParallelImplicit;
      members = 3 ∷ 2 ∷ [];
      min = 1;
      max = 1000;
      measures = example_measure Relative 2 false false ∷ [];
      accel = NoAccel;
    }
    ∷ record {
      kind = Multi;
      members = 6 ∷ 4 ∷ 5 ∷ [];
      min = 1;
      max = 1;
      measures = example_measure Absolute 4 false true ∷ [];
      accel = Constant (pos 1000000) (3 ∷ []);
    }
    ∷ record { kind = SerialExplicit; members = 7 ∷ 0 ∷ []; min = 1; max = 1; measures = []; accel = NoAccel }
    ∷ record { kind = ParallelExplicit; members = 1 ∷ 2 ∷ []; min = 1; max = 1; measures = []; accel = NoAccel }
    ∷ []

abbrev pub example_exchange : (data_id mesh from to scheme : ℕ) → Kind → (write_map read_map : Option ℕ) → Exchange
example_exchange data_id mesh from to scheme kind write_map read_map =
    record {
      data_id = data_id;
      mesh = mesh;
      from = from;
      to = to;
      scheme = scheme;
      kind = kind;
      initialize = false;
      substeps = true;
      write_map = write_map;
      read_map = read_map;
    }

abbrev pub example_exchanges : List Exchange
example_exchanges =
    example_exchange 0 0 0 1 0 FreshIter None (Some 0) ∷ example_exchange 1 0 1 0 0 Iterated (Some 1) None
    ∷ example_exchange 2 3 3 2 1 Iterated None (Some 0) ∷ example_exchange 3 6 4 6 2 Iterated (Some 0) None
    ∷ example_exchange 4 6 5 6 2 Iterated (Some 0) None ∷ example_exchange 5 7 7 0 3 Fresh None (Some 0)
    ∷ example_exchange 6 2 2 1 4 Lag None (Some 2) ∷ []

-- three windows of which the last is shorter; the group of participant 0 waits for participant 7
abbrev pub example_plan : PlanParts
example_plan =
    record {
      method = Fixed;
      window = 10;
      end_time = 25;
      most_windows = 3;
      parts = example_parts;
      meshes = example_meshes;
      data_list = example_data_list;
      schemes = example_schemes;
      exchanges = example_exchanges;
      nodes = Group 1 ∷ Group 2 ∷ Single 7 ∷ Group 0 ∷ [];
    }

abbrev pub completed : (owner window : ℕ) → Need
completed owner window = record { owner = owner; item = Completed window }

abbrev pub posted : (owner window iteration : ℕ) → Need
posted owner window iteration = record { owner = owner; item = Posted window iteration }

-- the first of two participants writes on its own mesh, and has a watch-point
abbrev pub writer : Part
writer =
    record {
      name = 65 ∷ [];
      provides = 0 ∷ [];
      receives = [];
      writes = entry 0 0 ∷ [];
      reads = [];
      maps = [];
      watches = record { name = 116 ∷ 105 ∷ 112 ∷ []; mesh = 0; at = pos 0 ∷ pos 0 ∷ [] } ∷ [];
      group = None;
    }

-- the second receives that mesh, and maps what it reads to its own
abbrev pub reader : Part
reader =
    record {
      name = 66 ∷ [];
      provides = 1 ∷ [];
      receives = 0 ∷ [];
      writes = [];
      reads = entry 0 1 ∷ [];
      maps = read_from 0 1 ∷ [];
      watches = [];
      group = None;
    }

abbrev pub serial_scheme : Scheme
serial_scheme =
    record { kind = SerialExplicit; members = 0 ∷ 1 ∷ []; min = 1; max = 1; measures = []; accel = NoAccel }

abbrev pub vector_exchange : Exchange
vector_exchange = example_exchange 0 0 0 1 0 Fresh None (Some 0)

-- two participants under a serial-explicit scheme, with one vector that goes from the first to the second
abbrev pub two_participants : PlanParts
two_participants =
    record {
      method = Fixed;
      window = 10;
      end_time = 25;
      most_windows = 3;
      parts = writer ∷ reader ∷ [];
      meshes = example_mesh 0 2 (0 ∷ []) ∷ example_mesh 1 2 (0 ∷ []) ∷ [];
      data_list = example_data 0 true 1 ∷ [];
      schemes = serial_scheme ∷ [];
      exchanges = vector_exchange ∷ [];
      nodes = Single 0 ∷ Single 1 ∷ [];
    }
