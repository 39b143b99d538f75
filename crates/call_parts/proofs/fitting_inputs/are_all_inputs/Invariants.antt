use Rattle.participant_words.specs.KnownByReply.{known_by}
use Rattle.call_parts.proofs.InputsSoFar.{AreSoFar}
use Rattle.call_parts.proofs.fitting_inputs.are_all_inputs.Given as goal

-- so far there are inputs for the exchanges that are received
abbrev pub invariant-loop-x : goal.invariant-loop-x
invariant-loop-x l = AreSoFar l.plan l.part (known_by l.plan l.part l.own l.received) l.window l.inputs l.place l.x
