use Rattle.std.proofs.Common.{◌≡◌, ◌&&◌, drop}
use Rattle.std.specs.List.{list_any}
use Rattle.std.specs.Str.{bytes_eq}
use Rattle.mesh_rules.specs.ActionRules.{writes_on}
use Rattle.mesh_rules.proofs.actions.writes_on.Given as goal

-- an entry of the rest writes them there where some entry does
abbrev pub invariant-entries : goal.invariant-entries
invariant-entries l =
    list_any (λ entry. bytes_eq entry.data_name l.data_name && bytes_eq entry.mesh l.mesh) (drop l.entry-index l.entry-items) ≡ writes_on l.table l.mesh l.data_name
