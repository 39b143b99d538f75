-- How a place is printed. The project's own.
use Rattle.std.specs.Prelude.{ℕ, List, ◌++◌, codes, decimal}
use Rattle.cpl_tables.specs.declared.places.Place.{Place}
use Rattle.cpl_tables.specs.declared.places.Place.TheVariants.{Config, DataTable, MeshTable, Participant, Receives, Write, Read, Map, Watch, Action, Scheme, Exchange, Measure, Acceleration, Case}

-- words and a number
abbrev pub numbered : List ℕ → ℕ → List ℕ
numbered words number = words ++ decimal number

-- in a participant's table
abbrev pub of_participant : ℕ → List ℕ → ℕ → List ℕ
of_participant part words number = numbered (codes "participant ") part ++ numbered words number

-- in a scheme's table
abbrev pub of_scheme : ℕ → List ℕ → ℕ → List ℕ
of_scheme scheme words number = numbered (codes "scheme ") scheme ++ numbered words number

-- the place, where the participant of a case file has this name
abbrev pub place_text : List ℕ → Place → List ℕ
place_text _ Config = codes "config"
place_text _ (DataTable n) = numbered (codes "data ") n
place_text _ (MeshTable n) = numbered (codes "mesh ") n
place_text _ (Participant n) = numbered (codes "participant ") n
place_text _ (Receives part n) = of_participant part (codes " receives ") n
place_text _ (Write part n) = of_participant part (codes " write ") n
place_text _ (Read part n) = of_participant part (codes " read ") n
place_text _ (Map part n) = of_participant part (codes " map ") n
place_text _ (Watch part n) = of_participant part (codes " watch ") n
place_text _ (Action part n) = of_participant part (codes " action ") n
place_text _ (Scheme n) = numbered (codes "scheme ") n
place_text _ (Exchange scheme n) = of_scheme scheme (codes " exchange ") n
place_text _ (Measure scheme n) = of_scheme scheme (codes " measure ") n
place_text _ (Acceleration scheme) = numbered (codes "scheme ") scheme ++ codes " acceleration"
place_text name (Case _) = codes "case " ++ name
