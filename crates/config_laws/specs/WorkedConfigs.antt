-- Two configurations worked by hand. The project's own.
use Rattle.std.specs.Prelude.{ℕ, List, [], ◌∷◌, Some, None, pos, true, false}
use Rattle.cpl_config.specs.declared.kind_words.DataKind.TheVariants.{Scalar}
use Rattle.cpl_config.specs.declared.kind_words.KindWord.TheVariants.{SerialExplicit}
use Rattle.cpl_config.specs.declared.kind_words.Direction.TheVariants.{Read}
use Rattle.cpl_config.specs.declared.kind_words.Constraint.TheVariants.{Consistent}
use Rattle.cpl_config.specs.declared.kind_words.MapWord.TheVariants.{NearestNeighbor}
use Rattle.cpl_config.specs.declared.kind_words.WindowWord.TheVariants.{Fixed}
use Rattle.cpl_config.specs.declared.config.Config.{Config}
use Rattle.cpl_config.specs.declared.config.DataTable.{DataTable}
use Rattle.cpl_config.specs.declared.config.MeshTable.{MeshTable}
use Rattle.cpl_config.specs.declared.config.PartTable.{PartTable}
use Rattle.cpl_config.specs.declared.config.SchemeTable.{SchemeTable}
use Rattle.cpl_config.specs.declared.config.ExchangeEntry.{ExchangeEntry}

-- names of one letter
abbrev pub letter_a : List ℕ
letter_a = 65 ∷ []

abbrev pub letter_b : List ℕ
letter_b = 66 ∷ []

abbrev pub letter_c : List ℕ
letter_c = 67 ∷ []

abbrev pub heat : List ℕ
heat = 72 ∷ []

-- a mesh of two dimensions with the heat on it
abbrev pub heated : List ℕ → MeshTable
heated name = record { name = name; dimensions = pos 2; data_list = heat ∷ [] }

-- a participant that has nothing to do
abbrev pub idle : List ℕ → PartTable
idle name = record { name = name; case = name; provides = []; receives = []; write = []; read = []; map = []; watch = []; action = [] }

-- the first is solved before the second, and what it gives is exchanged
abbrev pub one_after_the_other : (first second : List ℕ) → List ExchangeEntry → SchemeTable
one_after_the_other first second exchanges = record {
  kind = SerialExplicit;
  first = Some first;
  second = Some second;
  control = None;
  members = None;
  exchange = exchanges;
  max_iterations = None;
  min_iterations = None;
  measure = [];
  acceleration = None;
}

abbrev pub ten_windows : List DataTable → List MeshTable → List PartTable → List SchemeTable → Config
ten_windows data_list meshes participants schemes = record {
  format = pos 1;
  window = pos 100;
  max_time = None;
  max_windows = Some (pos 10);
  data_list = data_list;
  mesh = meshes;
  participant = participants;
  scheme = schemes;
  window_method = Fixed;
}

-- A heats B: B receives the mesh of A, and maps the heat onto its own
abbrev pub a_heats_b : Config
a_heats_b =
    ten_windows (record { name = heat; kind = Scalar; degree = pos 1 } ∷ []) (heated letter_a ∷ heated letter_b ∷ [])
    (record (idle letter_a) { provides = letter_a ∷ []; write = record { data_name = heat; mesh = letter_a } ∷ [] }
    ∷ record (idle letter_b) {
      provides = letter_b ∷ [];
      receives = record { mesh = letter_a; from = letter_a } ∷ [];
      read = record { data_name = heat; mesh = letter_b } ∷ [];
      map = record { direction = Read; from = letter_a; to = letter_b; constraint = Consistent; method = NearestNeighbor } ∷ [];
    }
    ∷ [])
    (one_after_the_other letter_a letter_b (record { data_name = heat; mesh = letter_a; from = letter_a; to = letter_b; initialize = false; substeps = true } ∷ []) ∷ [])

-- each of three waits for another
abbrev pub three_in_a_circle : Config
three_in_a_circle =
    ten_windows [] [] (idle letter_a ∷ idle letter_b ∷ idle letter_c ∷ [])
    (one_after_the_other letter_a letter_b [] ∷ one_after_the_other letter_b letter_c [] ∷ one_after_the_other letter_c letter_a [] ∷ [])
