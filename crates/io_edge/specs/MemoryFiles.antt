-- Files in memory with a list of loads that fail. The project's own.
use Rattle.std.specs.Prelude.{ℕ, List, Bool, ◌||◌, ◌==◌, is_none, if◌then◌else◌, refl}
use Rattle.std.specs.List.{list_any}
use Rattle.std.specs.Coded.{Coded, code_by, coded×, coded_ℕ, coded_list}
use Rattle.std.specs.FinMap.{get}
use Rattle.io_edge.specs.Counter.{next_count}
use Rattle.io_edge.specs.FileTable.{FileTable, table_code}

-- the files, the numbers of the loads that are to fail, and how many loads and faults there were
pub record MemoryFiles : Type 0 where
  pub files : FileTable
  pub failing : List ℕ
  pub loads : ℕ
  pub faults : ℕ

-- they are stored as the pair of the files and the rest
abbrev pub memory_files_code : Coded MemoryFiles
memory_files_code =
    code_by (FileTable × (List ℕ × (ℕ × ℕ))) (coded× table_code (coded× (coded_list coded_ℕ) (coded× coded_ℕ coded_ℕ)))
    (λ m. (m.files, (m.failing, (m.loads, m.faults))))
    (λ p. record { files = p.0; failing = p.1.0; loads = p.1.1.0; faults = p.1.1.1 }) (λ _. refl)

-- the next load of the name fails: its number, the count of loads before it, is listed, or the name isn't held
abbrev pub load_fails : MemoryFiles → List ℕ → Bool
load_fails m name = list_any (λ number. number == m.loads) m.failing || is_none (get m.files name)

-- after a load of the name there is one load more, and one fault more where it fails
abbrev pub after_load : MemoryFiles → List ℕ → MemoryFiles
after_load m name =
    record m { loads = next_count m.loads; faults = if load_fails m name then next_count m.faults else m.faults }
