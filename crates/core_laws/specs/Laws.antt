-- Words of the laws of every interleaving. The project's own.
use Rattle.std.specs.Prelude.{◌≡◌, ℕ, ◌+◌, ◌*◌, List, [], ◌∷◌, ◌++◌}
use Rattle.coupled_loop.specs.Schedules.{Entry, go, quit, run_out}

-- the first list begins the second
abbrev pub IsPrefix : {X : Type 0} → List X → List X → Type 0
IsPrefix {X} xs ys = (rest : List X) × (ys ≡ xs ++ rest)

-- how many entries of a schedule let a participant go on
abbrev pub goes : List Entry → ℕ
goes [] = 0
goes (go part ∷ rest) = 1 + goes rest
goes (quit part ∷ rest) = goes rest
goes (run_out part ∷ rest) = goes rest

-- nobody ends before its time
abbrev pub HasNoQuits : List Entry → Type 0
HasNoQuits schedule = (before after : List Entry) (entry : Entry) → schedule ≡ before ++ entry ∷ after → (part : ℕ) × (entry ≡ go part)

-- so many entries at most let one of so many participants go on, over so many windows of so many iterations with so many steps each
abbrev pub most_goes : (parts windows iterations steps : ℕ) → ℕ
most_goes parts windows iterations steps = parts * (4 + windows * iterations * (steps + 4))
