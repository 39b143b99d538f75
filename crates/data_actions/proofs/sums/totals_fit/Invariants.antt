use Rattle.std.proofs.Common.{◌≡◌, true}
use Rattle.std.specs.List.{list_all, range_with_len}
use Rattle.fixed_num.specs.Numbers.{is_value}
use Rattle.data_actions.specs.Totals.{total}
use Rattle.data_actions.proofs.sums.totals_fit.Given as goal

abbrev pub invariant-loop-offset : goal.invariant-loop-offset
invariant-loop-offset l = list_all (λ offset. is_value (total l.sum l.values offset)) (range_with_len 0 l.offset) ≡ true
