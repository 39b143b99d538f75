use Rattle.std.proofs.Common.{◌≡◌, drop}
use Rattle.config_rules.specs.Circles.{is_followed}
use Rattle.config_rules.proofs.circles.is_followed.Given as goal

-- a step of the rest leads there where one of all does
abbrev pub invariant-steps : goal.invariant-steps
invariant-steps l = is_followed (drop l.other-index l.steps) l.step ≡ is_followed l.steps l.step
