use Rattle.std.proofs.Common.{◌≡◌, find, drop}
use Rattle.std.specs.Str.{bytes_eq}
use Rattle.case_rules.specs.CaseRules.{case_mesh_called}
use Rattle.case_rules.proofs.case_meshes.case_mesh_called.Given as goal

-- what is found in the rest is found in the whole
abbrev pub invariant-meshes : goal.invariant-meshes
invariant-meshes l = find (λ mesh. bytes_eq mesh.name l.name) (drop l.mesh-index l.mesh-items) ≡ case_mesh_called l.fn.case_file l.name
