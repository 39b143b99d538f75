-- The files of a shelf. The project's own.
use Rattle.std.specs.Prelude.{ℕ, string_bytes, map, String, Vec}
use Rattle.std.specs.BTreeMap.{BTreeMap}
use Rattle.std.specs.FinMap as finite
use Rattle.io_edge.specs.FileTable.{FileTable}

-- each entry gives its name's bytes and its file's bytes
abbrev pub shelved : {Y Z : Type 0} → BTreeMap (String Y) (Vec ℕ Z) → FileTable
shelved files = finite.from_entries (map (λ entry. (string_bytes entry.0, entry.1.items)) files.entries)
