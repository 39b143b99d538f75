use Rattle.std.proofs.Common.{◌≡◌, ◌++◌, drop}
use Rattle.config_rules.specs.Circles.{steps_of}
use Rattle.config_rules.proofs.circles.steps_of.Given as goal

-- the steps that are there and those of the rest are those of all
abbrev pub invariant-tables : goal.invariant-tables
invariant-tables l = l.steps.items ++ steps_of l.config (drop l.table-index l.tables) ≡ steps_of l.config l.tables
