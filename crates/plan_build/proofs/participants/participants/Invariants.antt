use Rattle.std.proofs.Common.{◌≡◌, map, take}
use Rattle.plan_build.specs.PartOf.{part_of}
use Rattle.plan_build.proofs.participants.participants.Given as goal

abbrev pub invariant-tables : goal.invariant-tables
invariant-tables l = l.parts.items ≡ map (part_of l.config) (take l.table-index l.tables)
