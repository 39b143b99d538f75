use Rattle.std.proofs.lemmas.List.Elements.{Contains-get_or}
use Rattle.config_laws.specs.Numbered.{befores_in}
use Rattle.config_laws.proofs.NodesOf.{are_groups}
use Rattle.config_laws.proofs.CyclesOf.{befores_within}
use Rattle.config_laws.proofs.NoCycles.{known, no_cycle}
use Rattle.config_laws.proofs.rounds.an_accepted_configuration_has_no_cycle.Goals as goal

pub returns : goal.returns
returns c = record {
  groups = λ config accepted. are_groups config (known config accepted);
  befores = λ config accepted k d within. befores_within config (known config accepted) _ (Contains-get_or (befores_in config config.scheme) k d within);
  no_cycle = no_cycle;
}
