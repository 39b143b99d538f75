use Rattle.std.proofs.Common.{◌≡◌, map, take}
use Rattle.data_actions.specs.EntrySums.{place_of}
use Rattle.action_sums.specs.ActionSums.{entry_of}
use Rattle.action_sums.proofs.sums.places_of.Given as goal

abbrev pub invariant-names : goal.invariant-names
invariant-names l = l.places.items ≡ map (place_of l.lengths) (map (entry_of l.entries l.mesh) (take l.name-index l.names))
