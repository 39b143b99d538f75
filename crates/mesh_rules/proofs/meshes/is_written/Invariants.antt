use Rattle.std.proofs.Common.{◌≡◌, map, drop}
use Rattle.std.specs.List.{list_any}
use Rattle.mesh_rules.specs.Spots.{entry_of}
use Rattle.mesh_rules.specs.MeshRules.{writes_data}
use Rattle.mesh_rules.proofs.meshes.is_written.Given as goal

-- some entry of the rest writes the data where some entry does
abbrev pub invariant-entries : goal.invariant-entries
invariant-entries l =
    list_any (λ other. writes_data l.data_name other.held) (map entry_of (drop l.spot-index l.entries))
    ≡ list_any (λ other. writes_data l.data_name other.held) (map entry_of l.entries)
