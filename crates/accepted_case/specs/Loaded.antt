-- The bytes that loads give: of a file that is too long, one byte more than it may have. The project's own.
use Rattle.std.specs.Prelude.{ℕ, List, map, take, Option, option_map}
use Rattle.io_edge.specs.FileMap.{FileMap}
use Rattle.accepted_case.specs.Acceptance.{files_of}

-- the most of the bytes of a file that are loaded
abbrev pub cut : List ℕ → List ℕ
cut bytes = take 1048577 bytes

-- what loads give of the files of these names, where all of them are there
abbrev pub cut_files_of : FileMap → List (List ℕ) → Option (List (List ℕ))
cut_files_of files names = option_map (map cut) (files_of files names)
