-- The factor of an iteration. From the coupling documentation's constant and Aitken relaxation; that Aitken's factor starts anew in each window, and stays where the residual stays, is the project's own.
use Rattle.std.specs.Prelude.{Option, Some, None, List, ℤ, pos, ◌^◌, unsigned_abs, nat_eq, if◌then◌else◌}
use Rattle.fixed_num.specs.Norm.{product_sum}
use Rattle.fixed_num.specs.Relaxation.{aitken_factor}
use Rattle.acceleration.specs.declared.method.Method.{Method}
use Rattle.acceleration.specs.declared.method.Method.TheVariants.{Plain, Constant, Aitken}
use Rattle.acceleration.specs.declared.residual.Remembered.{Remembered}
use Rattle.acceleration.specs.Residual.{less}

-- Aitken's factor after one, where the residual was `before` and has changed by so much
unfoldable pub factor_after : (factor : ℤ) → (before change : List ℤ) → ℤ
factor_after factor before change =
    let square = unsigned_abs (product_sum change change) in
    if nat_eq square 0 then factor else aitken_factor factor (product_sum before change) square

-- that factor after the iteration before, where the residual is now r
abbrev pub next_factor : Remembered → List ℤ → ℤ
next_factor last r = factor_after last.factor last.residual (less r last.residual)

-- Aitken's factor in the first iteration of a window, and in a later one
abbrev pub aitken_by : ℤ → Option Remembered → List ℤ → ℤ
aitken_by first None r = first
aitken_by first (Some last) r = next_factor last r

-- the factor of an iteration whose residual is r; one passes on what was posted
abbrev pub factor_by : Method → Option Remembered → List ℤ → ℤ
factor_by Plain memory r = pos (10 ^ 6)
factor_by (Constant factor) memory r = factor
factor_by (Aitken first) memory r = aitken_by first memory r

-- what is remembered after it: Aitken's method alone looks back
abbrev pub memory_by : Method → Option Remembered → List ℤ → Option Remembered
memory_by (Aitken first) memory r = Some (record { residual = r; factor = aitken_by first memory r })
memory_by _ memory r = None
