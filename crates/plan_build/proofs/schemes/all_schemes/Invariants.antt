use Rattle.std.proofs.Common.{◌≡◌, ◌++◌, length, map, drop}
use Rattle.std.specs.List.{enumerate_from, flat_map}
use Rattle.scheme_parts.specs.NumbersOf.{exchanges_before}
use Rattle.scheme_parts.specs.ExchangeOf.{exchanges_of}
use Rattle.scheme_parts.specs.SchemeOf.{scheme_of}
use Rattle.plan_build.specs.PlanOf.{schemes_of, exchanges_of_all}
use Rattle.plan_build.proofs.schemes.all_schemes.Given as goal

-- what is there and what the rest gives are the whole
abbrev pub invariant-tables : goal.invariant-tables
invariant-tables l = record {
  schemes : l.schemes.items ++ map (λ numbered. scheme_of l.config (exchanges_before l.config numbered.0) numbered.1) (enumerate_from l.number (drop l.number l.tables)) ≡ schemes_of l.config;
  exchanges : l.exchanges.items ++ flat_map (λ numbered. exchanges_of l.config numbered.0 numbered.1) (enumerate_from l.number (drop l.number l.tables)) ≡ exchanges_of_all l.config;
  before : length l.exchanges.items ≡ exchanges_before l.config l.number;
}
