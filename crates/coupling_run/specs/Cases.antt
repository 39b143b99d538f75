-- The solvers of the cases that are accepted: A gives what it reads and `add`, B half of what it reads. The project's
-- own.
use Rattle.std.specs.Prelude.{None, List, [], ◌∷◌, ℤ, pos}
use Rattle.line_solvers.specs.declared.case.ReadWhen.TheVariants.{End}
use Rattle.line_solvers.specs.LineMeaning.{LineSpec, of_rows}

-- one component, which is `add` and the input times a factor, both in units
abbrev pub one_row : ℤ → ℤ → LineSpec
one_row add factor = record {
  common = record { step = 10; read = End; forbid = None; out = 0 ∷ []; reads = 1; size = 1 };
  rule = of_rows (record { add = add; states = []; reads = record { index = pos 0; number = factor } ∷ [] } ∷ []);
}

abbrev pub first_spec : ℤ → LineSpec
first_spec add = one_row add (pos 1000000)

abbrev pub second_spec : LineSpec
second_spec = one_row (pos 0) (pos 500000)

-- both start at zero
abbrev pub opening_state : List ℤ
opening_state = pos 0 ∷ []
