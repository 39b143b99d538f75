use Rattle.std.proofs.Common.{◌≡◌, ◌+◌, ◌++◌, map, drop}
use Rattle.std.specs.Prelude.{filter}
use Rattle.std.specs.List.{enumerate_from}
use Rattle.config_rules.specs.SchemeRules.{is_accelerated}
use Rattle.scheme_parts.specs.AccelOf.{accelerated}
use Rattle.scheme_parts.proofs.acceleration.accelerated.Given as goal

-- the numbers so far and those of the rest are those of all
abbrev pub invariant-exchanges : goal.invariant-exchanges
invariant-exchanges l = record {
  numbers : l.over.items ++ map (λ numbered. numbered.0) (filter (λ numbered. is_accelerated l.table l.entry numbered.1) (enumerate_from l.number (drop l.exchange-index l.exchange-items))) ≡ accelerated l.before l.table l.entry;
  number : l.number ≡ l.before + l.exchange-index;
}
