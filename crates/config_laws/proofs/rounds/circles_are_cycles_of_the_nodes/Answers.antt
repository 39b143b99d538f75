use Rattle.config_laws.proofs.NoCycles.{cycle, circle, accepted_without}
use Rattle.config_laws.proofs.rounds.circles_are_cycles_of_the_nodes.Goals as goal

pub returns : goal.returns
returns c = record { cycle = cycle; circle = circle; accepted = accepted_without }
