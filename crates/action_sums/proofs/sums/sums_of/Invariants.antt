use Rattle.std.proofs.Common.{◌≡◌, map, take}
use Rattle.data_actions.specs.EntrySums.{sum_of_entries}
use Rattle.action_sums.specs.ActionSums.{entry_sum}
use Rattle.action_sums.proofs.sums.sums_of.Given as goal

abbrev pub invariant-actions : goal.invariant-actions
invariant-actions l = l.sums.items ≡ map (sum_of_entries l.lengths) (map (entry_sum l.fn.part.write) (take l.action-index l.action-items))
