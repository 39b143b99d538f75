use Rattle.std.proofs.Common.{◌≡◌, map}
use Rattle.std.specs.List.{range_with_len}
use Rattle.case_rigs.specs.Lines.{line_point}
use Rattle.case_rigs.proofs.points.drawn.Given as goal

-- the points so far
abbrev pub invariant-vertices : goal.invariant-vertices
invariant-vertices g l = l.mesh ≡ map (λ vertex. line_point l.count vertex l.from l.to) (range_with_len 0 l.vertex)
