-- What a relaxer keeps from one iteration to the next. The project's own.
use Rattle.std.specs.Prelude.{◌≡◌, ℕ, Option, None, IfSome, length}
use Rattle.cpl_plan.specs.declared.parts.Accel.{Accel}
use Rattle.cpl_plan.specs.declared.parts.Accel.TheVariants.{None as NoAccel, Constant as ConstantAccel, Aitken as AitkenAccel}
use Rattle.acceleration.specs.declared.method.Method.{Method}
use Rattle.acceleration.specs.declared.method.Method.TheVariants.{Plain, Constant, Aitken}
use Rattle.acceleration.specs.declared.residual.Remembered.{Remembered}

-- the method, and what is remembered of the iteration before in the same window
pub record RelaxerState : Type 0 where
  pub method : Method
  pub memory : Option Remembered

-- the method of an acceleration
abbrev pub method_of : Accel → Method
method_of NoAccel = Plain
method_of (ConstantAccel factor over) = Constant factor
method_of (AitkenAccel first over) = Aitken first

-- nothing is remembered
abbrev pub fresh : Method → RelaxerState
fresh method = record { method = method; memory = None }

-- what is remembered, if anything, is of so many values
abbrev pub RemembersAsMany : RelaxerState → ℕ → Type 0
RemembersAsMany state count = IfSome state.memory (λ last. length last.residual ≡ count)
