-- What a sink has taken, where it tells. The project's own.
use Rattle.std.specs.Prelude.{◌≡◌, ℕ, ◌≤◌, List, ◌++◌, length, take, Option, None, Some}

-- the bytes taken after some more; a sink that doesn't tell still doesn't
abbrev pub taken_more : Option (List ℕ) → List ℕ → Option (List ℕ)
taken_more None bytes = None
taken_more (Some taken) bytes = Some (taken ++ bytes)

-- a prefix of the bytes was taken, perhaps none and perhaps all
abbrev pub TookPrefix : Option (List ℕ) → Option (List ℕ) → List ℕ → Type 0
TookPrefix old new bytes = (n : ℕ) × (n ≤ length bytes) × (new ≡ taken_more old (take n bytes))
