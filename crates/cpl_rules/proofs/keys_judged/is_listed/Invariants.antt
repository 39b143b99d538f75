use Rattle.std.proofs.Common.{◌≡◌, map, drop}
use Rattle.std.specs.List.{list_any}
use Rattle.std.specs.Str.{bytes_eq}
use Rattle.cpl_tables.specs.KeyRule.{rule_of_key}
use Rattle.cpl_rules.specs.BrokenRules.{is_listed}
use Rattle.cpl_rules.proofs.keys_judged.is_listed.Given as goal

-- the name is listed among the other keys where it is listed at all
abbrev pub invariant-keys : goal.invariant-keys
invariant-keys l = list_any (λ key. bytes_eq key.name l.name) (map rule_of_key (drop l.key-index l.key-items)) ≡ is_listed l.fn.kind l.name
