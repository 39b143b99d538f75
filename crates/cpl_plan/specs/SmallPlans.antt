-- Small plans under implicit schemes, and one whose windows the first participant makes. The project's own.
use Rattle.std.specs.Prelude.{ℕ, ◌+◌, true, false, pos, List, [], ◌∷◌, map, Option, Some, None}
use Rattle.std.specs.List.{range_with_len}
use Rattle.plan_order.specs.declared.node.Node.TheVariants.{Group}
use Rattle.cpl_plan.specs.ExamplePlan.{two_participants, writer, reader, vector_exchange, example_exchange, example_measure, example_mesh, example_data, entry, read_from}
use Rattle.cpl_plan.specs.declared.parts.PlanParts.{PlanParts}
use Rattle.cpl_plan.specs.declared.parts.WindowMethod.TheVariants.{FirstParticipant}
use Rattle.cpl_plan.specs.declared.parts.Part.{Part}
use Rattle.cpl_plan.specs.declared.parts.Kind.TheVariants.{FreshIter, Iterated}
use Rattle.cpl_plan.specs.declared.parts.Scheme.{Scheme}
use Rattle.cpl_plan.specs.declared.parts.SchemeKind.TheVariants.{SerialImplicit, ParallelImplicit, Multi}
use Rattle.cpl_plan.specs.declared.parts.Measure.{Measure}
use Rattle.cpl_plan.specs.declared.parts.MeasureKind.TheVariants.{Absolute}
use Rattle.cpl_plan.specs.declared.parts.Accel.TheVariants.{None as NoAccel, Constant}

-- a participant without meshes
abbrev pub idle : (n : ℕ) → Option ℕ → Part
idle n group =
    record { name = 73 ∷ (33 + n) ∷ []; provides = []; receives = []; writes = []; reads = []; maps = []; watches = []; group = group }

abbrev pub measured_once : List Measure
measured_once = example_measure Absolute 0 false false ∷ []

-- two participants under a parallel-implicit scheme, whose exchange is accelerated
abbrev pub iterated_scheme : Scheme
iterated_scheme =
    record { kind = ParallelImplicit; members = 0 ∷ 1 ∷ []; min = 1; max = 3; measures = measured_once; accel = Constant (pos 500000) (0 ∷ []) }

abbrev pub iterated_plan : PlanParts
iterated_plan =
    record two_participants {
      parts = record writer { group = Some 0 } ∷ record reader { group = Some 0 } ∷ [];
      schemes = iterated_scheme ∷ [];
      exchanges = record vector_exchange { kind = Iterated } ∷ [];
      nodes = Group 0 ∷ [];
    }

-- the same under a serial-implicit scheme, without acceleration
abbrev pub serial_iterated_scheme : Scheme
serial_iterated_scheme = record iterated_scheme { kind = SerialImplicit; accel = NoAccel }

abbrev pub serial_iterated_plan : PlanParts
serial_iterated_plan =
    record iterated_plan {
      schemes = serial_iterated_scheme ∷ [];
      exchanges = record vector_exchange { kind = FreshIter } ∷ [];
    }

-- data that go from one participant to two others, under a multi scheme
abbrev pub fan_scheme : Scheme
fan_scheme =
    record { kind = Multi; members = 0 ∷ 1 ∷ 2 ∷ []; min = 1; max = 3; measures = measured_once; accel = NoAccel }

abbrev pub fan : PlanParts
fan =
    record iterated_plan {
      parts =
          record writer { group = Some 0 } ∷ record reader { group = Some 0 }
          ∷ record reader { name = 67 ∷ []; provides = 2 ∷ []; reads = entry 0 2 ∷ []; maps = read_from 0 2 ∷ []; group = Some 0 } ∷ [];
      meshes = example_mesh 0 2 (0 ∷ []) ∷ example_mesh 1 2 (0 ∷ []) ∷ example_mesh 2 2 (0 ∷ []) ∷ [];
      schemes = fan_scheme ∷ [];
      exchanges = record vector_exchange { kind = Iterated } ∷ example_exchange 0 0 0 2 0 Iterated None (Some 0) ∷ [];
    }

-- the first of two participants makes the windows, of at most four ticks
abbrev pub first_step_plan : PlanParts
first_step_plan = record two_participants { method = FirstParticipant; window = 4; end_time = 10; most_windows = 10 }

-- so many vectors in three dimensions, all accelerated
abbrev pub wide : ℕ → PlanParts
wide n =
    record iterated_plan {
      parts =
          record writer { writes = map (λ d. entry d 0) (range_with_len 0 n); watches = []; group = Some 0 }
          ∷ record reader { reads = map (λ d. entry d 1) (range_with_len 0 n); group = Some 0 } ∷ [];
      meshes = example_mesh 0 3 (range_with_len 0 n) ∷ example_mesh 1 3 (range_with_len 0 n) ∷ [];
      data_list = map (λ d. example_data d true 1) (range_with_len 0 n);
      schemes = record iterated_scheme { accel = Constant (pos 1) (range_with_len 0 n) } ∷ [];
      exchanges = map (λ d. example_exchange d 0 0 1 0 Iterated None (Some 0)) (range_with_len 0 n);
    }
