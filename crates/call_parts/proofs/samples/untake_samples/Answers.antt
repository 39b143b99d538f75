use Rattle.std.proofs.Common.{ap, map, ◌∙◌}
use Rattle.participant_tables.specs.WriteSteps.{unsampled}
use Rattle.participant_tables.proofs.Undone.{samples-undone}
use Rattle.call_parts.proofs.samples.untake_samples.Goals as goal

pub returns-clause-unsampled : goal.returns-clause-unsampled
returns-clause-unsampled c = λ time before is. c.pop_samples.ensures ∙ ap (map unsampled) is ∙ samples-undone time before
