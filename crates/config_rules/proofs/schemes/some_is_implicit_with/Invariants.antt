use Rattle.std.proofs.Common.{◌≡◌, drop}
use Rattle.std.specs.List.{list_any}
use Rattle.config_rules.specs.SchemeRules.{is_implicit_with}
use Rattle.config_rules.proofs.schemes.some_is_implicit_with.Given as goal

-- a scheme of the rest is implicit with this one where one of all is
abbrev pub invariant-tables : goal.invariant-tables
invariant-tables l = list_any (is_implicit_with l.table) (drop l.other-index l.earlier) ≡ list_any (is_implicit_with l.table) l.earlier
