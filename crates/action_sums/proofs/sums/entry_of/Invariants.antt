use Rattle.std.proofs.Common.{◌≡◌, ◌+◌, drop}
use Rattle.std.specs.List.{position_or_len}
use Rattle.action_sums.specs.ActionSums.{is_of}
use Rattle.action_sums.proofs.sums.entry_of.Given as goal

-- what is found in the rest is found in the whole
abbrev pub invariant-entries : goal.invariant-entries
invariant-entries l = l.index + position_or_len (is_of l.mesh l.data_name) (drop l.index l.entries) ≡ position_or_len (is_of l.mesh l.data_name) l.entries
