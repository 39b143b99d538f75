-- When a measure holds. The coupling documentation has absolute, relative and residual-relative measures; limits in units and in millionths, and norms in whole numbers, are the project's own.
use Rattle.std.specs.Prelude.{◌≡◌, ℕ, ◌*◌, ◌^◌, ◌≤◌, Bool, List, ℤ, pos, ◌*ℤ◌, int_le, length, map, zip}
use Rattle.cpl_plan.specs.declared.parts.Measure.{Measure}
use Rattle.cpl_plan.specs.declared.parts.MeasureKind.{MeasureKind}
use Rattle.cpl_plan.specs.declared.parts.MeasureKind.TheVariants.{Absolute, Relative, ResidualRelative}
use Rattle.convergence.specs.declared.measured.Measured.{Measured}

-- an absolute measure holds where the change is at most the limit; a relative one where it is at most so many millionths of the new values' norm; a residual-relative one where it is at most so many millionths of the change in iteration 1
abbrev pub is_within : MeasureKind → (limit : ℤ) → (change size first : ℕ) → Bool
is_within Absolute limit change _ _ = int_le (pos change) limit
is_within Relative limit change size _ = int_le (pos (change * 10 ^ 6)) (limit *ℤ pos size)
is_within ResidualRelative limit change _ first = int_le (pos (change * 10 ^ 6)) (limit *ℤ pos first)

-- whether a measure holds at its norms
abbrev pub holds : Measured → Bool
holds at = is_within at.measure.kind at.measure.limit at.change at.size at.first

-- each measure with its three norms
abbrev pub measured : List Measure → (norms sizes firsts : List ℕ) → List Measured
measured measures norms sizes firsts =
    map (λ at. record { measure = at.0.0; change = at.0.1; size = at.1.0; first = at.1.1 }) (zip (zip measures norms) (zip sizes firsts))

-- at most sixteen measures, and of each kind of norm one for each measure
pub record OneForEach (measures : List Measure) (norms sizes firsts : List ℕ) : Type 0 where
  pub few : length measures ≤ 16
  pub each_norm : length norms ≡ length measures
  pub each_size : length sizes ≡ length measures
  pub each_first : length firsts ≡ length measures
