use Rattle.std.proofs.Common.{◌≡◌, ◌<◌, find, nat_le, drop, take, All}
use Rattle.field_buffers.proofs.refusals.first_bad_vertex.Given as goal

-- what is found in the rest is found in the whole
abbrev pub invariant-loop-i : goal.invariant-loop-i
invariant-loop-i l =
    (find (λ v. nat_le l.size v) (drop l.i l.vertices) ≡ find (λ v. nat_le l.size v) l.vertices)
    × All (λ v. v < l.size) (take l.i l.vertices)
