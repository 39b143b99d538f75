use Rattle.std.proofs.Common.{◌≡◌, ◌∷◌, take}
use Rattle.group_course.proofs.leading.led_by.Given as goal

abbrev pub invariant-loop-i : goal.invariant-loop-i
invariant-loop-i l = l.wave ≡ record { time = l.time; field = l.field } ∷ take l.i l.rest
