use Rattle.std.proofs.Common.{◌≡◌, map, take}
use Rattle.plan_build.specs.DataOf.{data_of}
use Rattle.plan_build.proofs.data.data_list.Given as goal

abbrev pub invariant-tables : goal.invariant-tables
invariant-tables l = l.data_list.items ≡ map data_of (take l.table-index l.tables)
