-- Where a participant stands before its first event. The project's own.
use Rattle.std.specs.Prelude.{None}
use Rattle.core_sides.specs.declared.standing.Place.TheVariants.{Sending}
use Rattle.core_sides.specs.declared.standing.Standing.{Standing}

abbrev pub opening_standing : Standing
opening_standing = record { place = Sending; ending = None; sent = None }
