use Rattle.std.proofs.Common.{◌≡◌, map, drop}
use Rattle.std.specs.List.{list_any}
use Rattle.cpl_tables.specs.KeyRule.{rule_of_key}
use Rattle.cpl_rules.specs.Seen.{seen_of}
use Rattle.cpl_rules.specs.BrokenRules.{key_breaks, some_key_breaks}
use Rattle.cpl_rules.proofs.keys_judged.some_key_breaks.Given as goal

-- some other key breaks the rule where some key does
abbrev pub invariant-keys : goal.invariant-keys
invariant-keys l =
    list_any (key_breaks l.rule (seen_of l.fn.spot)) (map rule_of_key (drop l.key-index l.key-items)) ≡ some_key_breaks l.rule (seen_of l.fn.spot)
