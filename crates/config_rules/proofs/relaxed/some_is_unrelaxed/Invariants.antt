use Rattle.std.proofs.Common.{◌≡◌, not, drop}
use Rattle.std.specs.List.{list_any}
use Rattle.config_rules.specs.SchemeRules.{relaxes}
use Rattle.config_rules.proofs.relaxed.some_is_unrelaxed.Given as goal

-- some data of the rest are not relaxed where some of all are not
abbrev pub invariant-names : goal.invariant-names
invariant-names l = list_any (λ name. not (relaxes l.table name)) (drop l.name-index l.names) ≡ list_any (λ name. not (relaxes l.table name)) l.names
