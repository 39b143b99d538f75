use Rattle.std.proofs.Common.{◌≡◌, map, take}
use Rattle.scheme_parts.specs.MeasureOf.{measure_of}
use Rattle.scheme_parts.proofs.measures.measures_of.Given as goal

abbrev pub invariant-entries : goal.invariant-entries
invariant-entries l = l.measures.items ≡ map (measure_of l.before l.table) (take l.entry-index l.entries)
