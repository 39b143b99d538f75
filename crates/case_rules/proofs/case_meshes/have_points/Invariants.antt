use Rattle.std.proofs.Common.{◌≡◌, drop}
use Rattle.std.specs.List.{list_all}
use Rattle.case_rules.specs.CaseRules.{has_right_points}
use Rattle.case_rules.proofs.case_meshes.have_points.Given as goal

-- the rest has its points where all have theirs
abbrev pub invariant-meshes : goal.invariant-meshes
invariant-meshes l = list_all (has_right_points l.config) (drop l.mesh-index l.meshes) ≡ list_all (has_right_points l.config) l.meshes
