use Rattle.std.proofs.Common.{◌≡◌, ◌+◌, drop}
use Rattle.std.specs.Prelude.{count_by}
use Rattle.config_rules.specs.SchemeRules.{feeds}
use Rattle.config_rules.proofs.exchanges.count_feeding.Given as goal

-- the count and that of the rest is that of all
abbrev pub invariant-entries : goal.invariant-entries
invariant-entries l = l.count + count_by (feeds l.reader l.data_name) (drop l.entry-index l.entries) ≡ count_by (feeds l.reader l.data_name) l.entries
