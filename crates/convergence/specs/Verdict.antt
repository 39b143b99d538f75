-- The verdict of an iteration. From the coupling documentation, where a window converges once all measures hold or one that suffices does, after a least and up to a greatest number of iterations, and where a strict measure must hold in the end; that the first one that fails is told is the project's own.
use Rattle.std.specs.Prelude.{ℕ, Bool, not, ◌&&◌, ◌||◌, Option, Some, None, List, nat_eq, nat_le, position, if◌then◌else◌}
use Rattle.std.specs.List.{list_all, list_any}
use Rattle.cpl_plan.specs.declared.words.Verdict.{Verdict}
use Rattle.cpl_plan.specs.declared.words.Verdict.TheVariants.{Again, Converged, AtLimit, NotConverged}
use Rattle.convergence.specs.declared.measured.Measured.{Measured}
use Rattle.convergence.specs.Holds.{holds}

-- whether a measure suffices, and holds
abbrev pub is_sufficient : Measured → Bool
is_sufficient at = at.measure.suffices && holds at

-- whether a measure is strict, and does not hold
abbrev pub is_failing : Measured → Bool
is_failing at = at.measure.strict && not (holds at)

-- whether the measures let the window end: one that suffices holds, or all hold
abbrev pub are_met : List Measured → Bool
are_met all = list_any is_sufficient all || list_all holds all

-- the place, from 0, of the first strict measure that does not hold
abbrev pub first_failing : List Measured → Option ℕ
first_failing all = position is_failing all

-- the verdict of the last iteration, where the measures are not met
abbrev pub last_verdict : Option ℕ → Verdict
last_verdict None = AtLimit
last_verdict (Some place) = NotConverged place

-- the verdict of iteration k, of at least min and at most max
abbrev pub verdict : List Measured → (k min max : ℕ) → Verdict
verdict all k min max =
    if nat_le min k && are_met all then Converged
    else if nat_eq k max then last_verdict (first_failing all)
    else Again
