use Rattle.std.proofs.Common.{◌≡◌, ◌&&◌, drop, position}
use Rattle.std.specs.List.{position_from}
use Rattle.config_rules.specs.Members.{is_implicit, is_member}
use Rattle.plan_build.proofs.participants.first_group.Given as goal

-- what is found in the rest is found in the whole
abbrev pub invariant-tables : goal.invariant-tables
invariant-tables l =
    position_from (λ table. is_implicit table && is_member l.name table) l.index (drop l.index l.tables)
    ≡ position (λ table. is_implicit table && is_member l.name table) l.tables
