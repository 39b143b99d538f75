use Rattle.std.proofs.Common.{◌≡◌, map, take}
use Rattle.group_course.specs.Taken.{degree_in}
use Rattle.group_course.proofs.relaxing.degrees.Given as goal

abbrev pub invariant-loop-place : goal.invariant-loop-place
invariant-loop-place l = l.degrees.items ≡ map (degree_in l.plan) (take l.place l.exchanges)
