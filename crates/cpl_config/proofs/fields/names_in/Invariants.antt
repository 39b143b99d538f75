use Rattle.std.proofs.Common.{◌≡◌, map, take}
use Rattle.toml.specs.View.{view}
use Rattle.cpl_tables.specs.Values.{text_of}
use Rattle.cpl_config.proofs.fields.names_in.Given as goal

abbrev pub invariant-loop-value : goal.invariant-loop-value
invariant-loop-value l = l.names.items ≡ map text_of (map view (take l.value-index l.values))
