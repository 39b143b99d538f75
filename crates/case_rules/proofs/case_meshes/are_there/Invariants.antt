use Rattle.std.proofs.Common.{◌≡◌, drop, is_some}
use Rattle.std.specs.List.{list_all}
use Rattle.case_rules.specs.CaseRules.{case_mesh_called}
use Rattle.case_rules.proofs.case_meshes.are_there.Given as goal

-- the rest has meshes where all have
abbrev pub invariant-names : goal.invariant-names
invariant-names l = list_all (λ name. is_some (case_mesh_called l.case_file name)) (drop l.name-index l.names) ≡ list_all (λ name. is_some (case_mesh_called l.case_file name)) l.names
