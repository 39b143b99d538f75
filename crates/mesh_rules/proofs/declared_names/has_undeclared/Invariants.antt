use Rattle.std.proofs.Common.{◌≡◌, drop}
use Rattle.mesh_rules.specs.Named.{is_declared}
use Rattle.mesh_rules.specs.MeshRules.{has_undeclared}
use Rattle.mesh_rules.proofs.declared_names.has_undeclared.Given as goal

-- some name of the rest is undeclared where some name is
abbrev pub invariant-names : goal.invariant-names
invariant-names l = has_undeclared (is_declared l.config l.of) (drop l.name-index l.names) ≡ has_undeclared (is_declared l.config l.of) l.names
