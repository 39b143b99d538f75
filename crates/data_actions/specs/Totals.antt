-- The sum of several written values, place by place. From the coupling documentation's summation action.
use Rattle.std.specs.Prelude.{ℕ, ◌+◌, List, ℤ, pos, ◌+ℤ◌, fold, slice_index_or}
use Rattle.data_actions.specs.declared.sums.Sum.{Sum}

-- the value at a place, or 0 past the end
abbrev pub value_at : List ℤ → ℕ → ℤ
value_at values place = slice_index_or values place (pos 0)

-- the sum of the source values that lie so many places after the first of each source
abbrev pub total : Sum → List ℤ → (offset : ℕ) → ℤ
total sum values offset = fold (λ (so_far : ℤ) (source : ℕ). so_far +ℤ value_at values (source + offset)) (pos 0) sum.sources
