-- Whether all sums of written values are in range. The project's own: the coupling documentation has floating point.
use Rattle.std.specs.Prelude.{Bool, List, ℤ}
use Rattle.std.specs.List.{list_all, range_with_len}
use Rattle.fixed_num.specs.Numbers.{is_value}
use Rattle.data_actions.specs.declared.sums.Sum.{Sum}
use Rattle.data_actions.specs.Totals.{total}

-- whether each total of the sum is a Value
abbrev pub totals_fit : Sum → List ℤ → Bool
totals_fit sum values = list_all (λ offset. is_value (total sum values offset)) (range_with_len 0 sum.length)

-- whether each total of each sum is
abbrev pub fit : List Sum → List ℤ → Bool
fit sums values = list_all (λ sum. totals_fit sum values) sums
