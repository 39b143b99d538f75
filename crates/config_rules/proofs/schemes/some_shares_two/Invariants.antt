use Rattle.std.proofs.Common.{◌≡◌, drop}
use Rattle.std.specs.List.{list_any}
use Rattle.config_rules.specs.SchemeRules.{share_two}
use Rattle.config_rules.proofs.schemes.some_shares_two.Given as goal

-- a scheme of the rest shares two where one of all does
abbrev pub invariant-tables : goal.invariant-tables
invariant-tables l = list_any (share_two l.table) (drop l.other-index l.earlier) ≡ list_any (share_two l.table) l.earlier
