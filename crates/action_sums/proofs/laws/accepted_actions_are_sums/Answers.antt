use Rattle.action_sums.proofs.FitSums.{fit_sums, few_values}
use Rattle.action_sums.proofs.laws.accepted_actions_are_sums.Goals as goal

pub returns : goal.returns
returns c = record { sums = fit_sums; few = few_values }
