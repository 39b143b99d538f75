-- Values at vertices: a row of components for each. From the coupling documentation's calls that read and write data at vertices; that the last row of a vertex that is named twice stands is the project's own.
use Rattle.std.specs.Prelude.{ℕ, ◌+◌, ◌*◌, ◌≤◌, List, [], ◌∷◌, ◌++◌, take, drop, flat_map, length, ℤ}

-- the row of a vertex
abbrev pub row_of : (components vertex : ℕ) → List ℤ → List ℤ
row_of components vertex values = take components (drop (vertex * components) values)

-- the rows of some vertices, one after another
abbrev pub rows_of : (components : ℕ) → (vertices : List ℕ) → List ℤ → List ℤ
rows_of components vertices values = flat_map (λ v. row_of components v values) vertices

-- the values with another row at a vertex
abbrev pub with_row : (components vertex : ℕ) → (row values : List ℤ) → List ℤ
with_row components vertex row values =
    take (vertex * components) values ++ (row ++ drop components (drop (vertex * components) values))

-- the values after a row was written at each of some vertices in turn
unfoldable pub with_rows : (components : ℕ) → (vertices : List ℕ) → (rows values : List ℤ) → List ℤ
with_rows components [] rows values = values
with_rows components (v ∷ vs) rows values = with_rows components vs (drop components rows) (with_row components v (take components rows) values)

-- the values reach as far as the row of a vertex does
abbrev pub HasRow : (components : ℕ) → (values : List ℤ) → (vertex : ℕ) → Type 0
HasRow components values vertex = vertex * components + components ≤ length values
