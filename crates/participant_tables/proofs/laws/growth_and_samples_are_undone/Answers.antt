use Rattle.participant_tables.proofs.Undone.{growth-undone, samples-undone}
use Rattle.participant_tables.proofs.laws.growth_and_samples_are_undone.Goals as goal

pub returns : goal.returns
returns c = record { growth = growth-undone; samples = samples-undone }
