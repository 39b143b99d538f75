use Rattle.std.proofs.Common.{◌≡◌, drop}
use Rattle.mesh_rules.specs.MeshRules.{some_goes}
use Rattle.mesh_rules.proofs.mappings.some_goes.Given as goal

-- some mapping of the rest goes so where some mapping does
abbrev pub invariant-entries : goal.invariant-entries
invariant-entries l = some_goes l.direction l.from l.to (drop l.entry-index l.entries) ≡ some_goes l.direction l.from l.to l.entries
