-- The same two participants under implicit schemes, over one window that is repeated. The project's own.
use Rattle.std.specs.Prelude.{ℕ, true, false, List, [], ◌∷◌, Some, ℤ, pos}
use Rattle.plan_order.specs.declared.node.Node.TheVariants.{Group}
use Rattle.cpl_plan.specs.declared.parts.PlanParts.{PlanParts}
use Rattle.cpl_plan.specs.declared.parts.Part.{Part}
use Rattle.cpl_plan.specs.declared.parts.Scheme.{Scheme}
use Rattle.cpl_plan.specs.declared.parts.SchemeKind.TheVariants.{SerialImplicit, ParallelImplicit, Multi}
use Rattle.cpl_plan.specs.declared.parts.Measure.{Measure}
use Rattle.cpl_plan.specs.declared.parts.MeasureKind.{MeasureKind}
use Rattle.cpl_plan.specs.declared.parts.MeasureKind.TheVariants.{Absolute, Relative, ResidualRelative}
use Rattle.cpl_plan.specs.declared.parts.Exchange.{Exchange}
use Rattle.cpl_plan.specs.declared.parts.Kind.TheVariants.{FreshIter, Iterated}
use Rattle.cpl_plan.specs.declared.parts.Accel.TheVariants.{None as NoAccel, Constant, Aitken}
use Rattle.wave_coupling.specs.WorkedCases.{Worked}
use Rattle.wave_coupling.specs.WorkedFiles.{first_part, second_part, exchange_u, exchange_v, one_window, case_a, case_b, row, pair, base}

abbrev pub measure_of : MeasureKind → (exchange : ℕ) → (limit : ℤ) → Measure
measure_of kind exchange limit = record { kind = kind; exchange = exchange; limit = limit; suffices = false; strict = false }

-- V may change by a tenth
abbrev pub measure_v : Measure
measure_v = measure_of Absolute 1 (pos 100000)

abbrev pub implicit_scheme : Scheme
implicit_scheme = record { kind = SerialImplicit; members = 0 ∷ 1 ∷ []; min = 1; max = 100; measures = measure_v ∷ []; accel = NoAccel }

abbrev pub grouped_parts : List Part
grouped_parts = record first_part { group = Some 0 } ∷ record second_part { group = Some 0 } ∷ []

abbrev pub iterated_v : Exchange
iterated_v = record exchange_v { kind = Iterated }

-- one window under a serial-implicit scheme
abbrev pub implicit_plan : Scheme → PlanParts
implicit_plan scheme = record one_window {
  parts = grouped_parts;
  schemes = scheme ∷ [];
  exchanges = record exchange_u { kind = FreshIter } ∷ iterated_v ∷ [];
  nodes = Group 0 ∷ [];
}

abbrev pub under : Scheme → Worked
under scheme = record base { plan = implicit_plan scheme }

abbrev pub implicit : Worked
implicit = under implicit_scheme

-- no more than three iterations
abbrev pub iteration_limit : Worked
iteration_limit = under (record implicit_scheme { max = 3 })

-- and then the measure must hold
abbrev pub strict_measure : Worked
strict_measure = under (record implicit_scheme { max = 3; measures = record measure_v { strict = true } ∷ [] })

-- V is relaxed by one: it is passed on
abbrev pub unit_relaxation : Worked
unit_relaxation = under (record implicit_scheme { accel = Constant (pos 1000000) (1 ∷ []) })

-- V is relaxed by Aitken's method, until it no longer changes
abbrev pub aitken_scheme : Scheme
aitken_scheme = record implicit_scheme { measures = measure_of Absolute 1 (pos 0) ∷ []; accel = Aitken (pos 500000) (1 ∷ []) }

abbrev pub aitken : Worked
aitken = under aitken_scheme

-- over two windows, where A starts at 1 and adds what it reads
abbrev pub aitken_restart : Worked
aitken_restart = record base {
  plan = record (implicit_plan aitken_scheme) { end_time = 20; most_windows = 2 };
  cases = record case_a {
    state = Some (pos 1000000 ∷ []);
    row = Some (row (pos 0) (pair 0 (pos 1000000) ∷ []) (pair 0 (pos 1000000) ∷ []) ∷ []);
  } ∷ case_b ∷ [];
}

-- V is relaxed by a half and may change by 0.3, over two windows
abbrev pub relaxed_windows : Worked
relaxed_windows = record base {
  plan = record (implicit_plan (record implicit_scheme { measures = measure_of Absolute 1 (pos 300000) ∷ []; accel = Constant (pos 500000) (1 ∷ []) })) {
    end_time = 20;
    most_windows = 2;
  };
}

-- the second factor is so large that the relaxed value is out of range
abbrev pub relax_overflow : Worked
relax_overflow = record base {
  plan = implicit_plan (record aitken_scheme { measures = measure_v ∷ [] });
  cases =
      record case_a { row = Some (row (pos 0) [] (pair 0 (pos 1000000) ∷ []) ∷ []) }
      ∷ record case_b { row = Some (row (pos 20000000000) [] (pair 0 (pos 999000) ∷ []) ∷ []) } ∷ [];
}

-- V may change by a tenth of itself
abbrev pub relative : Worked
relative = under (record implicit_scheme { measures = measure_of Relative 1 (pos 100000) ∷ [] })

-- by a quarter of its first change
abbrev pub residual_relative : Worked
residual_relative = under (record implicit_scheme { measures = measure_of ResidualRelative 1 (pos 250000) ∷ [] })

-- it suffices that U changes by no more than 0.3
abbrev pub sufficient : Worked
sufficient = under (record implicit_scheme { measures = measure_of Absolute 1 (pos 0) ∷ record (measure_of Absolute 0 (pos 300000)) { suffices = true } ∷ [] })

-- no change is too large, but there are two iterations at least
abbrev pub twice_at_least : Worked
twice_at_least = under (record implicit_scheme { min = 2; measures = measure_of Absolute 1 (pos 10000000) ∷ [] })

-- both read the iteration before; U and V may change by a tenth
abbrev pub parallel_implicit_scheme : Scheme
parallel_implicit_scheme = record implicit_scheme { kind = ParallelImplicit; measures = measure_of Absolute 0 (pos 100000) ∷ measure_v ∷ [] }

abbrev pub parallel_implicit_plan : Scheme → PlanParts
parallel_implicit_plan scheme = record (implicit_plan scheme) { exchanges = record exchange_u { kind = Iterated } ∷ iterated_v ∷ [] }

abbrev pub parallel_implicit : Worked
parallel_implicit = record base { plan = parallel_implicit_plan parallel_implicit_scheme }

-- the same as a multi scheme
abbrev pub multi_of_two : Worked
multi_of_two = record base { plan = parallel_implicit_plan (record parallel_implicit_scheme { kind = Multi }) }

-- V alone is relaxed, by a half; both may change by 0.3
abbrev pub one_relaxed : Worked
one_relaxed = record base {
  plan = parallel_implicit_plan (record parallel_implicit_scheme {
    measures = measure_of Absolute 0 (pos 300000) ∷ measure_of Absolute 1 (pos 300000) ∷ [];
    accel = Constant (pos 500000) (1 ∷ []);
  });
}

-- B is forbidden what it comes to in the third iteration
abbrev pub cut_in_judge : Worked
cut_in_judge = record implicit { cases = case_a ∷ record case_b { forbid = Some (pos 800000) } ∷ [] }
