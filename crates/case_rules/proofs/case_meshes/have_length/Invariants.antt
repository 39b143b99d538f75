use Rattle.std.proofs.Common.{◌≡◌, ◌==◌, drop, length}
use Rattle.std.specs.List.{list_all}
use Rattle.case_rules.proofs.case_meshes.have_length.Given as goal

-- the rest has the length where all have it
abbrev pub invariant-points : goal.invariant-points
invariant-points l = list_all (λ point. length point == l.dimensions) (drop l.point-index l.points) ≡ list_all (λ point. length point == l.dimensions) l.points
