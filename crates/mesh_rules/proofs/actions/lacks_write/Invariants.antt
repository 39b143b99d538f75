use Rattle.std.proofs.Common.{◌≡◌, not, drop}
use Rattle.std.specs.List.{list_any}
use Rattle.mesh_rules.specs.ActionRules.{writes_on}
use Rattle.mesh_rules.proofs.actions.lacks_write.Given as goal

-- some of the rest are not written on the mesh where some of all are not
abbrev pub invariant-names : goal.invariant-names
invariant-names l = list_any (λ name. not (writes_on l.table l.mesh name)) (drop l.name-index l.names) ≡ list_any (λ name. not (writes_on l.table l.mesh name)) l.names
