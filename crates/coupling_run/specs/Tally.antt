-- What the driver keeps of a participant that has made no step. The project's own.
use Rattle.std.specs.Prelude.{◌≡◌, pos, None}
use Rattle.coupling_run.specs.declared.turn.Tally.{Tally}

abbrev pub IsOpeningTally : Tally → Type 0
IsOpeningTally tally = tally ≡ record { before = pos 0; steps = 0; fault = None }
