use Rattle.std.proofs.Common.{◌≡◌, ◌&&◌, find, drop}
use Rattle.config_rules.specs.Members.{is_implicit, is_member}
use Rattle.config_rules.proofs.circles.implicit_of.Given as goal

-- what is found in the rest is found in the whole
abbrev pub invariant-tables : goal.invariant-tables
invariant-tables l =
    find (λ table. is_implicit table && is_member l.name table) (drop l.table-index l.table-items)
    ≡ find (λ table. is_implicit table && is_member l.name table) l.fn.config.scheme
