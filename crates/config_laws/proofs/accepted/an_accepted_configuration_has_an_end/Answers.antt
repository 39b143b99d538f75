use Rattle.config_laws.proofs.NumberFacts.{time, iterations}
use Rattle.config_laws.proofs.accepted.an_accepted_configuration_has_an_end.Goals as goal

pub returns : goal.returns
returns c = record { time = time; iterations = iterations }
