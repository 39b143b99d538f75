use Rattle.std.proofs.Common.{◌≡◌, drop}
use Rattle.std.specs.List.{find}
use Rattle.data_actions.specs.SummedValues.{makes}
use Rattle.data_actions.proofs.sums.made_at.Given as goal

abbrev pub invariant-loop-sum : goal.invariant-loop-sum
invariant-loop-sum l = find (makes l.place) (drop l.sum-index l.sums) ≡ find (makes l.place) l.sums
