use Rattle.std.proofs.Common.{◌≡◌, drop, position}
use Rattle.std.specs.List.{position_from}
use Rattle.mesh_rules.specs.MeshRules.{goes}
use Rattle.scheme_parts.proofs.map_places.first_going.Given as goal

-- what is found in the rest is found in the whole
abbrev pub invariant-maps : goal.invariant-maps
invariant-maps l = position_from (goes l.direction l.from l.to) l.index (drop l.index l.maps) ≡ position (goes l.direction l.from l.to) l.maps
