-- Two participants that exchange one number each: A gives one more than it reads, and B half of it. The project's own.
use Rattle.std.specs.Prelude.{ℕ, true, false, List, [], ◌∷◌, Some, None, ℤ, pos}
use Rattle.plan_order.specs.declared.node.Node.TheVariants.{Single}
use Rattle.cpl_plan.specs.ExamplePlan.{entry, read_from, serial_scheme, example_mesh, example_exchange}
use Rattle.cpl_plan.specs.declared.parts.PlanParts.{PlanParts}
use Rattle.cpl_plan.specs.declared.parts.WindowMethod.TheVariants.{Fixed, FirstParticipant}
use Rattle.cpl_plan.specs.declared.parts.Part.{Part}
use Rattle.cpl_plan.specs.declared.parts.DataPlan.{DataPlan}
use Rattle.cpl_plan.specs.declared.parts.Exchange.{Exchange}
use Rattle.cpl_plan.specs.declared.parts.SchemeKind.TheVariants.{ParallelExplicit}
use Rattle.cpl_plan.specs.declared.parts.Kind.TheVariants.{Lag, Fresh}
use Rattle.mesh_data.specs.declared.any_mesh.AnyMesh.{AnyMesh}
use Rattle.mesh_data.specs.declared.any_mesh.AnyMesh.TheVariants.{Two}
use Rattle.line_solvers.specs.declared.case.CaseParts.{CaseParts}
use Rattle.line_solvers.specs.declared.case.RowParts.{RowParts}
use Rattle.line_solvers.specs.declared.case.Pair.{Pair}
use Rattle.wave_coupling.specs.WorkedCases.{Worked, rows_case}

-- scalars that are read by lines
abbrev pub scalar : (letter : ℕ) → DataPlan
scalar letter = record { name = letter ∷ []; vector = false; degree = 1 }

abbrev pub first_part : Part
first_part = record {
  name = 65 ∷ [];
  provides = 0 ∷ [];
  receives = 1 ∷ [];
  writes = entry 0 0 ∷ [];
  reads = entry 1 0 ∷ [];
  maps = read_from 1 0 ∷ [];
  watches = [];
  group = None;
}

abbrev pub second_part : Part
second_part = record {
  name = 66 ∷ [];
  provides = 1 ∷ [];
  receives = 0 ∷ [];
  writes = entry 1 1 ∷ [];
  reads = entry 0 1 ∷ [];
  maps = read_from 0 1 ∷ [];
  watches = [];
  group = None;
}

-- U goes from A to B on A's mesh, and V from B to A on B's
abbrev pub exchange_u : Exchange
exchange_u = example_exchange 0 0 0 1 0 Fresh None (Some 0)

abbrev pub exchange_v : Exchange
exchange_v = example_exchange 1 1 1 0 0 Lag None (Some 0)

-- serial-explicit, three windows of ten ticks
abbrev pub base_plan : PlanParts
base_plan = record {
  method = Fixed;
  window = 10;
  end_time = 30;
  most_windows = 3;
  parts = first_part ∷ second_part ∷ [];
  meshes = example_mesh 0 2 (0 ∷ 1 ∷ []) ∷ example_mesh 1 2 (0 ∷ 1 ∷ []) ∷ [];
  data_list = scalar 85 ∷ scalar 86 ∷ [];
  schemes = serial_scheme ∷ [];
  exchanges = exchange_u ∷ exchange_v ∷ [];
  nodes = Single 0 ∷ Single 1 ∷ [];
}

-- the mesh of one point at (0, 0)
abbrev pub one_point : List AnyMesh
one_point = Two ((pos 0 ∷ pos 0 ∷ []) ∷ []) ∷ []

abbrev pub pair : (index : ℕ) → (number : ℤ) → Pair
pair index number = record { index = pos index; number = number }

-- what a row adds, and by what it multiplies the state and what is read
abbrev pub row : (add : ℤ) → (states reads : List Pair) → RowParts
row add states reads = record { add = add; states = states; reads = reads }

abbrev pub case_a : CaseParts
case_a = record (rows_case 1 1) { state = Some (pos 0 ∷ []); row = Some (row (pos 1000000) [] (pair 0 (pos 1000000) ∷ []) ∷ []) }

abbrev pub case_b : CaseParts
case_b = record (rows_case 1 1) { state = Some (pos 0 ∷ []); row = Some (row (pos 0) [] (pair 0 (pos 500000) ∷ []) ∷ []) }

abbrev pub base : Worked
base = record { plan = base_plan; meshes = one_point ∷ one_point ∷ []; cases = case_a ∷ case_b ∷ [] }

-- the same, parallel-explicit
abbrev pub parallel_plan : PlanParts
parallel_plan = record base_plan {
  schemes = record serial_scheme { kind = ParallelExplicit } ∷ [];
  exchanges = record exchange_u { kind = Lag } ∷ exchange_v ∷ [];
}

abbrev pub parallel : Worked
parallel = record base { plan = parallel_plan }

-- B starts at 4 and writes that first
abbrev pub initial_data : Worked
initial_data = record base {
  plan = record base_plan { end_time = 10; most_windows = 1; exchanges = exchange_u ∷ record exchange_v { initialize = true } ∷ [] };
  cases = case_a ∷ record case_b { state = Some (pos 4000000 ∷ []) } ∷ [];
}

-- the last window ends at 25, and A is watched at (0, 0)
abbrev pub watched : Worked
watched = record base {
  plan = record base_plan {
    end_time = 25;
    parts = record first_part { watches = record { name = 116 ∷ 105 ∷ 112 ∷ []; mesh = 0; at = pos 0 ∷ pos 0 ∷ [] } ∷ [] } ∷ second_part ∷ [];
  };
}

-- A adds one at each step of five ticks, and B what it reads at each step of four
abbrev pub adding_a : CaseParts
adding_a = record case_a { step = pos 5; row = Some (row (pos 1000000) (pair 0 (pos 1000000) ∷ []) [] ∷ []) }

abbrev pub adding_b : CaseParts
adding_b = record case_b { step = pos 4; row = Some (row (pos 0) (pair 0 (pos 1000000) ∷ []) (pair 0 (pos 1000000) ∷ []) ∷ []) }

abbrev pub one_window : PlanParts
one_window = record base_plan { end_time = 10; most_windows = 1 }

abbrev pub substeps : Worked
substeps = record base { plan = one_window; cases = adding_a ∷ adding_b ∷ [] }

-- U is read by steps
abbrev pub substeps_by_steps : Worked
substeps_by_steps = record substeps { plan = record one_window { data_list = record (scalar 85) { degree = 0 } ∷ scalar 86 ∷ [] } }

-- and of U the last sample of a window goes alone
abbrev pub last_alone : Worked
last_alone = record substeps {
  plan = record one_window {
    data_list = record (scalar 85) { degree = 0 } ∷ scalar 86 ∷ [];
    exchanges = record exchange_u { substeps = false } ∷ exchange_v ∷ [];
  };
}

-- both are forbidden what they come to in the first window
abbrev pub both_fault : Worked
both_fault = record parallel {
  cases =
      record case_a { forbid = Some (pos 1000000) }
      ∷ record case_b { forbid = Some (pos 2000000); row = Some (row (pos 2000000) [] (pair 0 (pos 500000) ∷ []) ∷ []) } ∷ [];
}

-- A adds the greatest number that there is to its state
abbrev pub value_overflow : Worked
value_overflow = record base {
  cases = record case_a { row = Some (row (pos 10000000000000) (pair 0 (pos 1000000) ∷ []) (pair 0 (pos 1000000) ∷ []) ∷ []) } ∷ case_b ∷ [];
}

-- A's step of four ticks makes the windows, of at most ten ticks and up to tick 10; B's steps have three
abbrev pub first_step_plan : PlanParts
first_step_plan = record base_plan { method = FirstParticipant; end_time = 10; most_windows = 10 }

abbrev pub first_step : Worked
first_step = record base { plan = first_step_plan; cases = record case_a { step = pos 4 } ∷ record case_b { step = pos 3 } ∷ [] }

-- windows of at most three ticks
abbrev pub first_step_capped : Worked
first_step_capped = record first_step { plan = record first_step_plan { window = 3 } }

-- two windows, whenever they end
abbrev pub first_step_count : Worked
first_step_count = record first_step { plan = record first_step_plan { end_time = 20; most_windows = 2 } }

-- one window of two thousand ticks, which A goes through in steps of one
abbrev pub small_steps : Worked
small_steps = record base {
  plan = record base_plan { window = 2000; end_time = 2000; most_windows = 1 };
  cases = record case_a { step = pos 1 } ∷ case_b ∷ [];
}
