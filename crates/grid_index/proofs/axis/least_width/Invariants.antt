use Rattle.std.proofs.Common.{◌≡◌, ℕ, min, fold, take}
use Rattle.grid_index.specs.declared.axis.Axis.{Axis}
use Rattle.grid_index.proofs.axis.least_width.Given as goal

abbrev pub invariant-loop-axis : goal.invariant-loop-axis
invariant-loop-axis l = l.least ≡ fold (λ (least : ℕ) (other : Axis). min least other.width) l.initial.least (take l.axis-index l.axis-items)
