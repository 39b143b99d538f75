use Rattle.event_fits.proofs.Checked.{AreChecked}
use Rattle.event_fits.proofs.posts.are_waves.Given as goal

-- so far each wave fits its exchange
abbrev pub invariant-loop-x : goal.invariant-loop-x
invariant-loop-x l = AreChecked l.plan l.sides l.p l.waves l.span l.x l.place
