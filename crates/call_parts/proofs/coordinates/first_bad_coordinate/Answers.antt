use Rattle.call_parts.proofs.BadCoordinates.{place_is}
use Rattle.call_parts.proofs.coordinates.first_bad_coordinate.Goals as goal

pub returns-clause-first : goal.returns-clause-first
returns-clause-first c =
    place_is c.args.numbers.now c.first_outside.result c.first_outside.ensures.found c.first_outside.ensures.no_coordinate c.first_outside.ensures.first c.first_outside.ensures.none
