use Rattle.std.proofs.Common.{◌≡◌, drop}
use Rattle.std.specs.List.{list_any}
use Rattle.std.specs.Str.{bytes_eq}
use Rattle.mesh_rules.specs.Named.{receives}
use Rattle.mesh_rules.proofs.named.receives.Given as goal

-- the mesh is received by one of the rest where it is received at all
abbrev pub invariant-entries : goal.invariant-entries
invariant-entries l = list_any (λ entry. bytes_eq l.mesh entry.mesh) (drop l.entry-index l.entry-items) ≡ receives l.fn.part l.mesh
