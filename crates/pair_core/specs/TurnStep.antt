-- The code's answer to a Take, as the step that it is. The project's own.
use Rattle.pair_core.specs.CoreStep.{TakeStep, Reads, BecomesCut, Waits}
use Rattle.pair_core.specs.declared.turn.TakeTurn.{TakeTurn}
use Rattle.pair_core.specs.declared.turn.TakeTurn.TheVariants.{Reads as ReadsTurn, CutBy as CutTurn, Waits as WaitsTurn}

abbrev pub step_of : TakeTurn → TakeStep
step_of (ReadsTurn value) = Reads value
step_of (CutTurn who) = BecomesCut who
step_of (WaitsTurn owner window iteration) = Waits owner window iteration
