use Rattle.std.proofs.Common.{◌≡◌, ◌+◌, ◌≤◌, drop, flat_map}
use Rattle.std.specs.Prelude.{count_by}
use Rattle.cpl_config.specs.SoundConfig.{all_exchanges}
use Rattle.config_rules.specs.SchemeRules.{feeds}
use Rattle.config_rules.proofs.exchanges.is_fed_once.Given as goal

-- the count is at most one, and with that of the rest it is that of all
abbrev pub invariant-tables : goal.invariant-tables
invariant-tables l = record {
  few : l.count ≤ 1;
  rest : l.count + count_by (feeds l.fn.reader l.fn.data_name) (flat_map (λ table. table.exchange) (drop l.table-index l.table-items)) ≡ count_by (feeds l.fn.reader l.fn.data_name) (all_exchanges l.fn.config);
}
