-- What a load that succeeds appends. The project's own.
use Rattle.std.specs.Prelude.{◌≡◌, ℕ, ◌+◌, ◌≤◌, List, ◌++◌, length, take, Option, None, Some}
use Rattle.io_edge.specs.FileMap.{FileMap}

-- the bytes of the file, up to one more than asked for, stand behind the old ones
abbrev pub AppendsFile : List ℕ → ℕ → List ℕ → List ℕ → Type 0
AppendsFile file most old new = new ≡ old ++ take (most + 1) file

-- some bytes, up to one more than asked for, stand behind the old ones
abbrev pub AppendsSome : ℕ → List ℕ → List ℕ → Type 0
AppendsSome most old new = (bytes : List ℕ) × (length bytes ≤ most + 1) × (new ≡ old ++ bytes)

-- where the map is told, the name is there and its file's bytes are appended; else some bytes are
abbrev pub Loads : Option FileMap → List ℕ → ℕ → List ℕ → List ℕ → Type 0
Loads None name most old new = AppendsSome most old new
Loads (Some map) name most old new = (file : List ℕ) × (map name ≡ Some file) × AppendsFile file most old new
