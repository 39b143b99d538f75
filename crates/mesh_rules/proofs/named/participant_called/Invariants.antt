use Rattle.std.proofs.Common.{◌≡◌, find, drop}
use Rattle.std.specs.Str.{bytes_eq}
use Rattle.mesh_rules.specs.Named.{participant_called}
use Rattle.mesh_rules.proofs.named.participant_called.Given as goal

-- what is found in the rest is found in the whole
abbrev pub invariant-tables : goal.invariant-tables
invariant-tables l = find (λ table. bytes_eq table.name l.name) (drop l.table-index l.table-items) ≡ participant_called l.fn.config l.name
