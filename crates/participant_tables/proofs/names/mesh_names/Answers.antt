use Rattle.std.proofs.Common.{List, ℕ, ap, ◌∙◌}
use Rattle.std.specs.List.{list_any}
use Rattle.std.specs.Str.{bytes_eq}
use Rattle.participant_tables.specs.Named.{mesh_name}
use Rattle.participant_tables.proofs.NamesOnce.{new_at, told_name}
use Rattle.participant_tables.proofs.names.mesh_names.Goals as goal

pub add-requires : goal.add-requires
add-requires c =
    ap (λ (name : List ℕ). list_any (bytes_eq name) c.meshes.names) (told_name c.args.plan.now _ c.mesh_name.result.now c.mesh_name.ensures)
    ∙ new_at (mesh_name c.args.plan.now) c.args.provides.now c.meshes.mesh-index _ c.meshes.names c.meshes.invariant c.meshes-test.true c.requires.apart
