-- Files in memory, as a finite map from each name to its bytes. The project's own.
use Rattle.std.specs.Prelude.{ℕ, List}
use Rattle.std.specs.Ordering.{nat_cmp}
use Rattle.std.specs.Cmp.Lexicographic.{slice_cmp}
use Rattle.std.specs.Coded.{Coded, coded_ℕ, coded_list}
use Rattle.std.specs.FinMap as finite

-- the names' order is that of their bytes
abbrev pub FileTable : Type 0
FileTable = finite.FinMap (slice_cmp nat_cmp) (List ℕ)

-- a table is stored as the list of its entries
abbrev pub table_code : Coded FileTable
table_code = finite.code (coded_list coded_ℕ) (coded_list coded_ℕ)
