-- The same two participants with a third one, and with meshes of two points. The project's own.
use Rattle.std.specs.Prelude.{ℕ, List, [], ◌∷◌, ◌++◌, Some, None, ℤ, pos}
use Rattle.plan_order.specs.declared.node.Node.TheVariants.{Single, Group}
use Rattle.cpl_plan.specs.ExamplePlan.{entry, read_from, write_onto, serial_scheme, example_mesh, example_exchange}
use Rattle.cpl_plan.specs.declared.parts.PlanParts.{PlanParts}
use Rattle.cpl_plan.specs.declared.parts.Part.{Part}
use Rattle.cpl_plan.specs.declared.parts.SchemeKind.{SchemeKind}
use Rattle.cpl_plan.specs.declared.parts.SchemeKind.TheVariants.{SerialExplicit, ParallelExplicit}
use Rattle.cpl_plan.specs.declared.parts.Kind.{Kind}
use Rattle.cpl_plan.specs.declared.parts.Kind.TheVariants.{Lag, Fresh}
use Rattle.mesh_data.specs.declared.any_mesh.AnyMesh.{AnyMesh}
use Rattle.mesh_data.specs.declared.any_mesh.AnyMesh.TheVariants.{Two}
use Rattle.line_solvers.specs.declared.case.CaseParts.{CaseParts}
use Rattle.line_solvers.specs.declared.case.RowParts.{RowParts}
use Rattle.wave_coupling.specs.WorkedCases.{Worked, rows_case}
use Rattle.wave_coupling.specs.WorkedFiles.{first_part, second_part, exchange_u, exchange_v, base_plan, one_point, case_a, case_b, row, pair}
use Rattle.wave_coupling.specs.WorkedImplicit.{implicit_scheme, implicit_plan}

-- C reads data of another participant's mesh, is what it reads, and writes nothing
abbrev pub third_part : (data_id mesh : ℕ) → Part
third_part data_id mesh = record {
  name = 67 ∷ [];
  provides = 2 ∷ [];
  receives = mesh ∷ [];
  writes = [];
  reads = entry data_id 2 ∷ [];
  maps = read_from mesh 2 ∷ [];
  watches = [];
  group = None;
}

abbrev pub case_c : CaseParts
case_c = record (rows_case 1 0) { state = Some (pos 0 ∷ []); row = Some (row (pos 0) [] (pair 0 (pos 1000000) ∷ []) ∷ []) }

-- A and B iterate, and C is in an explicit scheme with A
abbrev pub with_third : SchemeKind → Kind → PlanParts
with_third scheme kind =
    let plan = implicit_plan implicit_scheme in
    record plan {
      parts = plan.parts ++ third_part 0 0 ∷ [];
      meshes = plan.meshes ++ example_mesh 2 2 (0 ∷ []) ∷ [];
      schemes = plan.schemes ++ record serial_scheme { kind = scheme; members = 0 ∷ 2 ∷ [] } ∷ [];
      exchanges = plan.exchanges ++ example_exchange 0 0 0 2 1 kind None (Some 0) ∷ [];
      nodes = Group 0 ∷ Single 2 ∷ [];
    }

abbrev pub of_three : PlanParts → Worked
of_three plan = record { plan = plan; meshes = one_point ∷ one_point ∷ one_point ∷ []; cases = case_a ∷ case_b ∷ case_c ∷ [] }

-- as its second
abbrev pub third_participant : Worked
third_participant = of_three (with_third SerialExplicit Fresh)

-- parallel to it
abbrev pub third_in_parallel : Worked
third_in_parallel = of_three (with_third ParallelExplicit Lag)

-- A is forbidden what it comes to at first
abbrev pub cut_chain : Worked
cut_chain = record third_participant { cases = record case_a { forbid = Some (pos 1000000) } ∷ case_b ∷ case_c ∷ [] }

-- A before B before C
abbrev pub serial_chain : Worked
serial_chain = of_three (record base_plan {
  parts = first_part ∷ second_part ∷ third_part 1 1 ∷ [];
  meshes = base_plan.meshes ++ example_mesh 2 2 (1 ∷ []) ∷ [];
  schemes = serial_scheme ∷ record serial_scheme { members = 1 ∷ 2 ∷ [] } ∷ [];
  exchanges = exchange_u ∷ exchange_v ∷ example_exchange 1 1 1 2 1 Fresh None (Some 0) ∷ [];
  nodes = Single 0 ∷ Single 1 ∷ Single 2 ∷ [];
})

-- a state of two components that stay as they are
abbrev pub kept_rows : List RowParts
kept_rows = row (pos 0) (pair 0 (pos 1000000) ∷ []) [] ∷ row (pos 0) (pair 1 (pos 1000000) ∷ []) [] ∷ []

abbrev pub keeping : List ℤ → CaseParts
keeping state = record (rows_case 2 2) { state = Some state; row = Some kept_rows }

-- A writes at two points, which are mapped onto B's one point, where they are added up
abbrev pub mapped_plan : PlanParts
mapped_plan = record base_plan {
  parts = record first_part { maps = read_from 1 0 ∷ write_onto 0 1 ∷ [] } ∷ record second_part { reads = entry 0 1 ∷ []; maps = [] } ∷ [];
  exchanges = example_exchange 0 1 0 1 0 Fresh (Some 1) None ∷ exchange_v ∷ [];
}

abbrev pub two_points : List AnyMesh
two_points = Two ((pos 0 ∷ pos 0 ∷ []) ∷ (pos 1000000 ∷ pos 0 ∷ []) ∷ []) ∷ []

-- both of them so much
abbrev pub mapped_sum : (each : ℤ) → Worked
mapped_sum each = record {
  plan = mapped_plan;
  meshes = two_points ∷ one_point ∷ [];
  cases = keeping (each ∷ each ∷ []) ∷ case_b ∷ [];
}
