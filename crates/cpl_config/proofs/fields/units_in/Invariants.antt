use Rattle.std.proofs.Common.{◌≡◌, map, take}
use Rattle.toml.specs.View.{view}
use Rattle.cpl_config.specs.TreeValues.{units_of}
use Rattle.cpl_config.proofs.fields.units_in.Given as goal

abbrev pub invariant-loop-value : goal.invariant-loop-value
invariant-loop-value l = l.units.items ≡ map units_of (map view (take l.value-index l.values))
