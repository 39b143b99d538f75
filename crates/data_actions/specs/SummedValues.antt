-- Written values of which those at the targets of sums are the totals. From the coupling documentation's summation action; the limit is the project's own.
use Rattle.std.specs.Prelude.{ℕ, ◌+◌, ◌-◌, ◌^◌, Bool, ◌&&◌, List, ℤ, length, map, find, nat_le, nat_lt}
use Rattle.std.specs.List.{list_any, range_with_len}
use Rattle.std.specs.Option.{option_map_or}
use Rattle.fixed_num.specs.Relaxation.{within}
use Rattle.data_actions.specs.declared.sums.Sum.{Sum}
use Rattle.data_actions.specs.Totals.{value_at, total}

-- whether the place is one of the sum's target
abbrev pub makes : (place : ℕ) → Sum → Bool
makes place sum = nat_le sum.target place && nat_lt place (sum.target + sum.length)

-- whether it is one of some target
abbrev pub is_made : List Sum → (place : ℕ) → Bool
is_made sums place = list_any (makes place) sums

-- what stands at the place: at a target the Value that is nearest to the total, elsewhere what stood there
abbrev pub made_at : List Sum → List ℤ → (place : ℕ) → ℤ
made_at sums values place =
    option_map_or (λ sum. within (10 ^ 13) (total sum values (place - sum.target))) (find (makes place) sums) (value_at values place)

-- what stands at all places
abbrev pub summed : List Sum → List ℤ → List ℤ
summed sums values = map (made_at sums values) (range_with_len 0 (length values))
