use Rattle.std.proofs.Common.{◌≡◌, map, take}
use Rattle.plan_build.specs.PartOf.{map_of}
use Rattle.plan_build.proofs.participants.maps.Given as goal

abbrev pub invariant-entries : goal.invariant-entries
invariant-entries l = l.maps.items ≡ map (map_of l.config) (take l.entry-index l.entries)
