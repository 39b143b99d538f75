use Rattle.std.proofs.Common.{◌≡◌, ℕ, ◌+◌}
use Rattle.config_rules.specs.Circles.{left_after}
use Rattle.config_rules.proofs.circles.left_after.Given as goal

-- taking away from what is left, for the rest of the times, is taking away from all
abbrev pub invariant-times : goal.invariant-times
invariant-times l = (n : ℕ) → l._time + n ≡ l.times → left_after n l.left.items ≡ left_after l.times l.fn.steps.items
