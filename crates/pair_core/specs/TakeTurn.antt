-- What becomes of a Take, of what a core keeps of the two participants. The project's own.
use Rattle.std.specs.Prelude.{ℕ, nat_lt, Some, None, if◌then◌else◌}
use Rattle.pair_core.specs.Kept.{KeptSide}
use Rattle.pair_core.specs.CoreState.{partner_of, position_of}
use Rattle.pair_core.specs.CoreStep.{TakeStep, take_step, needed_window}

-- the needed value is the last that the partner posted, where the partner has come so far
abbrev pub kept_take : ℕ → KeptSide → KeptSide → TakeStep
kept_take p own partner =
    take_step
    (if nat_lt (needed_window p own.posts) partner.posts then Some partner.last else None)
    partner.ending
    (partner_of p)
    (position_of partner.posts)
