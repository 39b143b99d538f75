-- What a core keeps, of its fields. The project's own.
use Rattle.pair_core.specs.Kept.{Kept}
use Rattle.pair_core.specs.KeptSide.{kept_side}
use Rattle.pair_core.specs.declared.machine.Core.TheInside.{Inside}

abbrev pub kept_view : Inside → Kept
kept_view core = record { windows = core.windows; first = kept_side core.first; second = kept_side core.second }
