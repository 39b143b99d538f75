-- What the lines tell of the schemes: each line of a scheme is of its last judged iteration or of an earlier one, and the last has its line. The project's own.
use Rattle.std.specs.Prelude.{◌≡◌, ◌⊎◌, ℕ, ◌<◌, ◌≤◌, IsTrue, List, slice_get, Option, Some, None}
use Rattle.std.specs.List.{list_any}
use Rattle.cpl_plan.specs.declared.words.IterLine.{IterLine}
use Rattle.core_schemes.specs.declared.schemes.LastJudged.{LastJudged}
use Rattle.core_schemes.specs.declared.schemes.SchemeState.{SchemeState}
use Rattle.coupling_core.specs.JudgedLines.{is_line_on}

-- iteration (w, k) is the last judged one, or an earlier one
abbrev pub IsUpTo : (w k : ℕ) → Option LastJudged → Type 0
IsUpTo w k None = ⊥
IsUpTo w k (Some last) = (w < last.window) ⊎ ((w ≡ last.window) × (k ≤ last.iteration))

pub record AreLined (lines : List IterLine) (schemes : List SchemeState) : Type 0 where
  pub earlier : (number w k : ℕ) (state : SchemeState) → slice_get schemes number ≡ Some state
      → IsTrue (list_any (is_line_on number w k) lines) → IsUpTo w k state.last
  pub newest : (number : ℕ) (state : SchemeState) (last : LastJudged) → slice_get schemes number ≡ Some state → state.last ≡ Some last
      → IsTrue (list_any (is_line_on number last.window last.iteration) lines)
