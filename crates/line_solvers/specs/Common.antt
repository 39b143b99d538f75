-- What the shipped solvers have in common, whatever their kind. The project's own.
use Rattle.std.specs.Prelude.{ℕ, Bool, true, false, Option, List, ℤ}
use Rattle.line_solvers.specs.declared.case.ReadWhen.{ReadWhen}
use Rattle.line_solvers.specs.declared.case.ReadWhen.TheVariants.{End, Start}

-- what never changes of a solver
pub record Common : Type 0 where
  -- the longest step, in ticks
  pub step : ℕ
  -- when a step reads its inputs
  pub read : ReadWhen
  -- the least absolute value that a component may not have, if there is one
  pub forbid : Option ℕ
  -- the indexes of the components that are written
  pub out : List ℕ
  -- how many values a step reads
  pub reads : ℕ
  -- how many components the state has
  pub size : ℕ

-- that, and the state
pub record LineView : Type 0 where
  pub common : Common
  pub state : List ℤ

-- whether a step reads its inputs at its end, and not at its start
abbrev pub is_at_end : ReadWhen → Bool
is_at_end End = true
is_at_end Start = false
