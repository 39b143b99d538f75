-- What a core keeps of one participant, of the fields that hold it. The project's own.
use Rattle.pair_core.specs.Kept.{KeptSide}
use Rattle.pair_core.specs.declared.side.Side.{Side}

abbrev pub kept_side : Side → KeptSide
kept_side side = record { posts = side.posts; taken = side.taken; last = side.last; ending = side.ending }
