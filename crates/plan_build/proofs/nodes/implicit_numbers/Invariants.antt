use Rattle.std.proofs.Common.{◌≡◌, ◌++◌, map, drop}
use Rattle.std.specs.Prelude.{filter}
use Rattle.std.specs.List.{enumerate_from}
use Rattle.config_rules.specs.Members.{is_implicit}
use Rattle.plan_build.specs.Nodes.{implicit_numbers}
use Rattle.plan_build.proofs.nodes.implicit_numbers.Given as goal

-- the numbers so far and those of the rest are those of all
abbrev pub invariant-tables : goal.invariant-tables
invariant-tables l = record {
  numbers : l.numbers.items ++ map (λ numbered. numbered.0) (filter (λ numbered. is_implicit numbered.1) (enumerate_from l.number (drop l.table-index l.tables))) ≡ implicit_numbers l.tables;
  number : l.number ≡ l.table-index;
}
