-- The rows of watch-points as they are kept: by watch-point, and for each in the order in which they came. From the coupling documentation's watch-points; one list for all of them is the project's own.
use Rattle.std.specs.Prelude.{ℕ, ◌<◌, ◌≤◌, ⊤, nat_eq, List, [], ◌∷◌, All, filter}
use Rattle.cpl_plan.specs.declared.words.WatchRow.{WatchRow}

-- none stands behind a row of a later watch-point
abbrev pub Rising : List WatchRow → Type 0
Rising [] = ⊤
Rising (row ∷ rows) = All (λ later. row.watch ≤ later.watch) rows × Rising rows

-- each is of one of so many watch-points
abbrev pub AreOf : (count : ℕ) → List WatchRow → Type 0
AreOf count rows = All (λ row. row.watch < count) rows

-- the rows of a watch-point
abbrev pub rows_at : (watch : ℕ) → List WatchRow → List WatchRow
rows_at watch rows = filter (λ row. nat_eq row.watch watch) rows

pub record AreInOrder (count : ℕ) (rows : List WatchRow) : Type 0 where
  pub rising : Rising rows
  pub there : AreOf count rows
