use Rattle.std.proofs.Common.{◌≡◌, ◌++◌, drop, map}
use Rattle.std.specs.Prelude.{filter}
use Rattle.config_rules.specs.Members.{is_implicit}
use Rattle.config_laws.specs.Numbered.{numbers_in}
use Rattle.plan_build.proofs.nodes.groups_in.Given as goal

-- the groups that are there and those of the rest are those of all
abbrev pub invariant-tables : goal.invariant-tables
invariant-tables l =
    map (λ group. group.items) l.groups.items ++ map (numbers_in l.config) (filter is_implicit (drop l.table-index l.tables))
    ≡ map (numbers_in l.config) (filter is_implicit l.tables)
