use Rattle.std.proofs.Common.{◌≡◌, drop, filter}
use Rattle.std.specs.Prelude.{nat_lt, sum_by}
use Rattle.config_rules.specs.SchemeRules.{components_of, is_accelerated}
use Rattle.config_rules.proofs.relaxed.has_many_components.Given as goal

-- the rest has more components than are left where all have more than 20
abbrev pub invariant-entries : goal.invariant-entries
invariant-entries l =
    nat_lt l.left (sum_by (components_of l.config) (filter (is_accelerated l.table l.acceleration) (drop l.entry-index l.entry-items)))
    ≡ nat_lt 20 (sum_by (components_of l.config) (filter (is_accelerated l.table l.acceleration) l.fn.table.exchange))
