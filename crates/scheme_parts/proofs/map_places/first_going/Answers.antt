use Rattle.mesh_rules.specs.MeshRules.{goes}
use Rattle.config_rules.proofs.Counts.{from_front}
use Rattle.scheme_parts.proofs.map_places.first_going.Goals as goal

pub maps-init : goal.maps-init
maps-init c = from_front (goes c.args.direction c.args.from.now c.args.to.now) c.args.maps.now
