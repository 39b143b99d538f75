-- The words of a configuration and of case files. The project's own, after the coupling documentation's names for schemes, mappings and measures.
use Rattle.std.specs.Prelude.{ℕ, List, [], ◌∷◌, codes}
use Rattle.cpl_tables.specs.declared.word_lists.WordList.{WordList}
use Rattle.cpl_tables.specs.declared.word_lists.WordList.TheVariants.{WindowMethod, DataKind, Direction, Constraint, MapMethod, ActionKind, SchemeKind, MeasureKind, AccelerationKind, Solver, ReadWhen}

-- the words that a key of the list may have
abbrev pub words_of : WordList → List (List ℕ)
words_of WindowMethod = codes "fixed" ∷ codes "first-participant" ∷ []
words_of DataKind = codes "scalar" ∷ codes "vector" ∷ []
words_of Direction = codes "read" ∷ codes "write" ∷ []
words_of Constraint = codes "consistent" ∷ codes "conservative" ∷ []
words_of MapMethod = codes "nearest-neighbor" ∷ codes "nearest-projection" ∷ []
words_of ActionKind = codes "summation" ∷ []
words_of SchemeKind =
    codes "serial-explicit" ∷ codes "parallel-explicit" ∷ codes "serial-implicit" ∷ codes "parallel-implicit" ∷ codes "multi" ∷ []
words_of MeasureKind = codes "absolute" ∷ codes "relative" ∷ codes "residual-relative" ∷ []
words_of AccelerationKind = codes "constant" ∷ codes "aitken" ∷ []
words_of Solver = codes "rows" ∷ codes "rod" ∷ codes "spring" ∷ codes "recorded" ∷ []
words_of ReadWhen = codes "end" ∷ codes "start" ∷ []
