use Rattle.std.proofs.Common.{◌≡◌, drop}
use Rattle.std.specs.List.{list_any}
use Rattle.std.specs.Str.{bytes_eq}
use Rattle.mesh_rules.specs.Named.{is_among}
use Rattle.mesh_rules.proofs.named.is_among.Given as goal

-- the name is among the rest where it is among all
abbrev pub invariant-names : goal.invariant-names
invariant-names l = list_any (bytes_eq l.name) (drop l.other-index l.names) ≡ is_among l.name l.names
