use Rattle.std.proofs.Common.{◌≡◌, drop, position}
use Rattle.std.specs.List.{position_from}
use Rattle.mesh_rules.specs.Named.{provides}
use Rattle.plan_build.proofs.meshes.first_provider.Given as goal

-- what is found in the rest is found in the whole
abbrev pub invariant-tables : goal.invariant-tables
invariant-tables l = position_from (λ table. provides table l.mesh) l.index (drop l.index l.tables) ≡ position (λ table. provides table l.mesh) l.tables
