-- Words for the laws of the solvers. The project's own.
use Rattle.std.specs.Prelude.{ℕ, ◌^◌, List, [], ◌∷◌, ℤ, pos, ◌+ℤ◌, fold, replicate}
use Rattle.line_solvers.specs.declared.case.RowParts.{RowParts}

-- the sum of the components
abbrev pub total : List ℤ → ℤ
total components = fold (λ (so_far component : ℤ). so_far +ℤ component) (pos 0) components

-- the row that is component i itself: one pair of it with the factor one, nothing added, no reads
abbrev pub identity_row : ℕ → RowParts
identity_row i = record { add = pos 0; states = record { index = pos i; number = pos (10 ^ 6) } ∷ []; reads = [] }

-- so many components that are all zero
abbrev pub at_rest : ℕ → List ℤ
at_rest n = replicate n (pos 0)
