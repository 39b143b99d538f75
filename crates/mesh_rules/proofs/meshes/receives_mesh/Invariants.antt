use Rattle.std.proofs.Common.{◌≡◌, drop}
use Rattle.std.specs.List.{list_any}
use Rattle.std.specs.Str.{bytes_eq}
use Rattle.mesh_rules.proofs.meshes.receives_mesh.Given as goal

-- some entry of the rest is of the mesh where some entry is
abbrev pub invariant-entries : goal.invariant-entries
invariant-entries l = list_any (λ other. bytes_eq other.mesh l.mesh) (drop l.other-index l.entries) ≡ list_any (λ other. bytes_eq other.mesh l.mesh) l.entries
