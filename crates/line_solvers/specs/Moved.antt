-- Where a component is after a step, from how fast it changes. The project's own.
use Rattle.std.specs.Prelude.{ℕ, ◌^◌, ℤ, pos, ◌+ℤ◌, ◌*ℤ◌}
use Rattle.fixed_num.specs.Numbers.{quotient}

-- the component after so many ticks of this slope, which is a change in each tick, in millionths of a unit
abbrev pub moved : (from slope : ℤ) (ticks : ℕ) → ℤ
moved from slope ticks = from +ℤ quotient (pos ticks *ℤ slope) (10 ^ 6)
