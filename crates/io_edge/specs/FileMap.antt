-- What files hold, as a function of the name. The project's own.
use Rattle.std.specs.Prelude.{ℕ, List, Option}

-- the bytes of the file with a name, or None where there is no such file
abbrev pub FileMap : Type 0
FileMap = List ℕ → Option (List ℕ)
