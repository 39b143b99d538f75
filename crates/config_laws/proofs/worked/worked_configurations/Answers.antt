use Rattle.std.proofs.Common.{refl}
use Rattle.config_rules.proofs.RuleSteps.{accepted}
use Rattle.config_laws.specs.WorkedConfigs.{a_heats_b}
use Rattle.config_laws.proofs.worked.worked_configurations.Goals as goal

pub returns : goal.returns
returns c = record { accepted = accepted a_heats_b refl; refused = refl }
