-- What a step makes of rows: each new component is a rounded sum of weighted components and inputs. The project's own.
use Rattle.std.specs.Prelude.{◌^◌, List, ℤ, pos, ◌+ℤ◌, ◌*ℤ◌, unsigned_abs, map, fold}
use Rattle.fixed_num.specs.Numbers.{quotient}
use Rattle.line_solvers.specs.declared.case.Pair.{Pair}
use Rattle.line_solvers.specs.declared.case.RowParts.{RowParts}
use Rattle.line_solvers.specs.Components.{component}

-- the pair's number times the value at its index
abbrev pub weighted : List ℤ → Pair → ℤ
weighted values pair = pair.number *ℤ component values (unsigned_abs pair.index)

-- the sum of the weighted values of all pairs
unfoldable pub weighted_sum : List Pair → List ℤ → ℤ
weighted_sum pairs values = fold (λ so_far pair. so_far +ℤ weighted values pair) (pos 0) pairs

-- what a row makes of the state and the inputs; numbers and values are in units, so one million is divided out
abbrev pub row_component : (state inputs : List ℤ) → RowParts → ℤ
row_component state inputs row =
    row.add +ℤ quotient (weighted_sum row.states state +ℤ weighted_sum row.reads inputs) (10 ^ 6)

-- the components that the rows make; the ticks of the step play no part
abbrev pub rows_components : List RowParts → (state inputs : List ℤ) → List ℤ
rows_components rows state inputs = map (row_component state inputs) rows
