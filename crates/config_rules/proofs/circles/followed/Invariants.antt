use Rattle.std.proofs.Common.{◌≡◌, ◌++◌, drop, filter}
use Rattle.config_rules.specs.Circles.{is_followed, followed}
use Rattle.config_rules.proofs.circles.followed.Given as goal

-- what is left so far and what is left of the rest is what is left of all
abbrev pub invariant-steps : goal.invariant-steps
invariant-steps l = l.left.items ++ filter (is_followed l.steps) (drop l.step-index l.steps) ≡ followed l.steps
