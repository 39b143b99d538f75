use Rattle.std.proofs.Common.{◌≡◌, map, take}
use Rattle.scheme_parts.specs.ExchangeOf.{exchange_of}
use Rattle.scheme_parts.proofs.exchanges.exchanges_of.Given as goal

abbrev pub invariant-entries : goal.invariant-entries
invariant-entries l = l.exchanges.items ≡ map (exchange_of l.config l.scheme l.table) (take l.entry-index l.entries)
