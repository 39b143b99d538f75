use Rattle.std.proofs.Common.{◌&&◌}
use Rattle.config_rules.specs.Members.{is_implicit, is_member}
use Rattle.config_rules.proofs.Counts.{from_front}
use Rattle.plan_build.proofs.participants.first_group.Goals as goal

pub tables-init : goal.tables-init
tables-init c = from_front (λ table. is_implicit table && is_member c.args.name.now table) c.args.tables.now
