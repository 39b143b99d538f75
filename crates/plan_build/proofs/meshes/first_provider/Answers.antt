use Rattle.mesh_rules.specs.Named.{provides}
use Rattle.config_rules.proofs.Counts.{from_front}
use Rattle.plan_build.proofs.meshes.first_provider.Goals as goal

pub tables-init : goal.tables-init
tables-init c = from_front (λ table. provides table c.args.mesh.now) c.args.tables.now
