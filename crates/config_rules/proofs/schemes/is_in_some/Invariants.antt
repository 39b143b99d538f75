use Rattle.std.proofs.Common.{◌≡◌, drop}
use Rattle.std.specs.List.{list_any}
use Rattle.config_rules.specs.Members.{is_member}
use Rattle.config_rules.proofs.schemes.is_in_some.Given as goal

-- the participant is in a scheme of the rest where it is in one of all
abbrev pub invariant-tables : goal.invariant-tables
invariant-tables l = list_any (is_member l.name) (drop l.table-index l.tables) ≡ list_any (is_member l.name) l.tables
