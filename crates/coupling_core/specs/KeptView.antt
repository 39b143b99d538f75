-- What a core keeps, of its fields. The project's own.
use Rattle.coupling_core.specs.CoreKept.{CoreKept}
use Rattle.coupling_core.specs.declared.machine.Core.TheInside.{Inside}

abbrev pub kept_view : Inside → CoreKept
kept_view core = record {
  plan = core.plan;
  standings = core.sides.standings.items;
  ends = core.sides.ends.items;
  stores = core.stores.items;
  schemes = core.schemes.items;
  lines = core.lines.items;
}
