use Rattle.data_actions.proofs.Entries.{entry_sums}
use Rattle.data_actions.proofs.laws.sums_of_whole_entries_are_sums.Goals as goal

pub returns : goal.returns
returns c = entry_sums
