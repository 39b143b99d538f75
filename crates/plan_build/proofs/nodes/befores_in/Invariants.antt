use Rattle.std.proofs.Common.{◌≡◌, ◌++◌, drop}
use Rattle.config_laws.specs.Numbered.{befores_in}
use Rattle.plan_build.proofs.nodes.befores_in.Given as goal

-- the pairs that are there and those of the rest are those of all
abbrev pub invariant-tables : goal.invariant-tables
invariant-tables l = l.befores.items ++ befores_in l.config (drop l.table-index l.tables) ≡ befores_in l.config l.tables
