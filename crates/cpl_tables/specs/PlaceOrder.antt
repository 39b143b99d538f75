-- The order of places, by which the first place of a broken rule is found: a table comes before the tables in it, and these come before the next table. The project's own.
use Rattle.std.specs.Prelude.{◌≡◌, ◌<◌, ℕ, List, [], ◌∷◌, ◌⊎◌}
use Rattle.std.specs.List.{AllByRecursion}
use Rattle.cpl_tables.specs.declared.places.Place.{Place}
use Rattle.cpl_tables.specs.declared.places.Place.TheVariants.{Config, DataTable, MeshTable, Participant, Receives, Write, Read, Map, Watch, Action, Scheme, Exchange, Measure, Acceleration, Case}

-- the way to a place from the file's own table: which list, and which number in it; then the same in the table that stands there
abbrev pub way_to : Place → List ℕ
way_to Config = []
way_to (DataTable n) = 1 ∷ n ∷ []
way_to (MeshTable n) = 2 ∷ n ∷ []
way_to (Participant part) = 3 ∷ part ∷ []
way_to (Receives part n) = 3 ∷ part ∷ 1 ∷ n ∷ []
way_to (Write part n) = 3 ∷ part ∷ 2 ∷ n ∷ []
way_to (Read part n) = 3 ∷ part ∷ 3 ∷ n ∷ []
way_to (Map part n) = 3 ∷ part ∷ 4 ∷ n ∷ []
way_to (Watch part n) = 3 ∷ part ∷ 5 ∷ n ∷ []
way_to (Action part n) = 3 ∷ part ∷ 6 ∷ n ∷ []
way_to (Scheme scheme) = 4 ∷ scheme ∷ []
way_to (Exchange scheme n) = 4 ∷ scheme ∷ 1 ∷ n ∷ []
way_to (Measure scheme n) = 4 ∷ scheme ∷ 2 ∷ n ∷ []
way_to (Acceleration scheme) = 4 ∷ scheme ∷ 3 ∷ 1 ∷ []
way_to (Case part) = 5 ∷ part ∷ []

-- the first way ends on the other one, or goes to an earlier list or number where they part
abbrev pub IsEarlier : List ℕ → List ℕ → Type 0
IsEarlier _ [] = ⊥
IsEarlier [] (_ ∷ _) = Unit {0}
IsEarlier (m ∷ ms) (n ∷ ns) = (m < n) ⊎ ((m ≡ n) × IsEarlier ms ns)

abbrev pub IsBefore : Place → Place → Type 0
IsBefore place other = IsEarlier (way_to place) (way_to other)

-- each place comes before all after it
abbrev pub AreRising : List Place → Type 0
AreRising [] = Unit {0}
AreRising (place ∷ places) = AllByRecursion (IsBefore place) places × AreRising places
