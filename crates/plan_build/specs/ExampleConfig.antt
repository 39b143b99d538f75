-- The configuration whose plan is the example plan: each kind of scheme, implicit ones composed with explicit ones. The project's own.
use Rattle.std.specs.Prelude.{ℕ, ◌+◌, true, false, pos, List, [], ◌∷◌, Some, None}
use Rattle.cpl_config.specs.declared.kind_words.WindowWord.TheVariants.{Fixed}
use Rattle.cpl_config.specs.declared.kind_words.DataKind.TheVariants.{Scalar, Vector}
use Rattle.cpl_config.specs.declared.kind_words.Direction.TheVariants.{Read, Write}
use Rattle.cpl_config.specs.declared.kind_words.Constraint.TheVariants.{Consistent, Conservative}
use Rattle.cpl_config.specs.declared.kind_words.MapWord.TheVariants.{NearestNeighbor}
use Rattle.cpl_config.specs.declared.kind_words.KindWord.TheVariants.{SerialExplicit, ParallelExplicit, SerialImplicit, ParallelImplicit, Multi}
use Rattle.cpl_config.specs.declared.kind_words.MeasureWord.{MeasureWord}
use Rattle.cpl_config.specs.declared.kind_words.MeasureWord.TheVariants.{Absolute, Relative, ResidualRelative}
use Rattle.cpl_config.specs.declared.kind_words.AccelWord.TheVariants.{Constant, Aitken}
use Rattle.cpl_config.specs.declared.config.Config.{Config}
use Rattle.cpl_config.specs.declared.config.DataTable.{DataTable}
use Rattle.cpl_config.specs.declared.config.MeshTable.{MeshTable}
use Rattle.cpl_config.specs.declared.config.PartTable.{PartTable}
use Rattle.cpl_config.specs.declared.config.ReceivesEntry.{ReceivesEntry}
use Rattle.cpl_config.specs.declared.config.DataEntry.{DataEntry}
use Rattle.cpl_config.specs.declared.config.MapEntry.{MapEntry}
use Rattle.cpl_config.specs.declared.config.SchemeTable.{SchemeTable}
use Rattle.cpl_config.specs.declared.config.ExchangeEntry.{ExchangeEntry}
use Rattle.cpl_config.specs.declared.config.MeasureEntry.{MeasureEntry}

-- participants are A, B, .., their meshes MA, MB, .., and data d0, d1, ..
abbrev part_name : ℕ → List ℕ
part_name n = (65 + n) ∷ []

abbrev mesh_name : ℕ → List ℕ
mesh_name n = 77 ∷ (65 + n) ∷ []

abbrev data_name : ℕ → List ℕ
data_name n = 100 ∷ (48 + n) ∷ []

abbrev example_data : ℕ → DataTable
example_data n = record { name = data_name n; kind = Scalar; degree = pos 1 }

abbrev example_data_list : List DataTable
example_data_list =
    example_data 0 ∷ example_data 1 ∷ record (example_data 2) { kind = Vector } ∷ record (example_data 3) { kind = Vector }
    ∷ record (example_data 4) { degree = pos 0 } ∷ example_data 5 ∷ example_data 6 ∷ []

abbrev example_mesh : (n : ℕ) → List (List ℕ) → MeshTable
example_mesh n carried = record { name = mesh_name n; dimensions = pos 2; data_list = carried }

abbrev in_space : MeshTable → MeshTable
in_space mesh = record mesh { dimensions = pos 3 }

abbrev example_meshes : List MeshTable
example_meshes =
    example_mesh 0 (data_name 0 ∷ data_name 1 ∷ data_name 5 ∷ []) ∷ example_mesh 1 (data_name 0 ∷ data_name 1 ∷ data_name 6 ∷ [])
    ∷ example_mesh 2 (data_name 2 ∷ data_name 6 ∷ []) ∷ example_mesh 3 (data_name 2 ∷ [])
    ∷ in_space (example_mesh 4 (data_name 3 ∷ [])) ∷ in_space (example_mesh 5 (data_name 4 ∷ []))
    ∷ in_space (example_mesh 6 (data_name 3 ∷ data_name 4 ∷ [])) ∷ example_mesh 7 (data_name 5 ∷ []) ∷ []

-- a participant that provides its mesh and does nothing yet
abbrev example_part : (n : ℕ) → PartTable
example_part n =
    record {
      name = part_name n;
      case = part_name n;
      provides = mesh_name n ∷ [];
      receives = [];
      write = [];
      read = [];
      map = [];
      watch = [];
      action = [];
    }

abbrev received : (n : ℕ) → ReceivesEntry
received n = record { mesh = mesh_name n; from = part_name n }

abbrev entry : (data_id mesh : ℕ) → DataEntry
entry data_id mesh = record { data_name = data_name data_id; mesh = mesh_name mesh }

abbrev read_from : (from to : ℕ) → MapEntry
read_from from to =
    record { direction = Read; from = mesh_name from; to = mesh_name to; constraint = Consistent; method = NearestNeighbor }

abbrev write_onto : (from to : ℕ) → MapEntry
write_onto from to =
    record { direction = Write; from = mesh_name from; to = mesh_name to; constraint = Conservative; method = NearestNeighbor }

abbrev example_parts : List PartTable
example_parts =
    record (example_part 0) {
      receives = received 7 ∷ [];
      write = entry 0 0 ∷ [];
      read = entry 1 0 ∷ entry 5 0 ∷ [];
      map = read_from 7 0 ∷ [];
      watch = record { name = 116 ∷ 105 ∷ 112 ∷ []; mesh = mesh_name 0; at = pos 0 ∷ pos 0 ∷ [] } ∷ [];
    }
    ∷ record (example_part 1) {
      receives = received 0 ∷ received 2 ∷ [];
      write = entry 1 1 ∷ [];
      read = entry 0 1 ∷ entry 6 1 ∷ [];
      map = read_from 0 1 ∷ write_onto 1 0 ∷ read_from 2 1 ∷ [];
    }
    ∷ record (example_part 2) {
      receives = received 3 ∷ [];
      write = entry 6 2 ∷ [];
      read = entry 2 2 ∷ [];
      map = read_from 3 2 ∷ [];
    }
    ∷ record (example_part 3) { write = entry 2 3 ∷ [] }
    ∷ record (example_part 4) { receives = received 6 ∷ []; write = entry 3 4 ∷ []; map = write_onto 4 6 ∷ [] }
    ∷ record (example_part 5) { receives = received 6 ∷ []; write = entry 4 5 ∷ []; map = write_onto 5 6 ∷ [] }
    ∷ record (example_part 6) { read = entry 3 6 ∷ entry 4 6 ∷ [] }
    ∷ record (example_part 7) { write = entry 5 7 ∷ [] }
    ∷ []

abbrev sent : (data_id mesh from to : ℕ) → ExchangeEntry
sent data_id mesh from to =
    record {
      data_name = data_name data_id;
      mesh = mesh_name mesh;
      from = part_name from;
      to = part_name to;
      initialize = false;
      substeps = true;
    }

abbrev measure : MeasureWord → (data_id : ℕ) → MeasureEntry
measure kind data_id = record { kind = kind; data_name = data_name data_id; limit = pos 0; suffices = false; strict = false }

-- a serial-explicit scheme of two
abbrev scheme_of_two : (first second : ℕ) → List ExchangeEntry → SchemeTable
scheme_of_two first second exchanges =
    record {
      kind = SerialExplicit;
      first = Some (part_name first);
      second = Some (part_name second);
      control = None;
      members = None;
      exchange = exchanges;
      max_iterations = None;
      min_iterations = None;
      measure = [];
      acceleration = None;
    }

abbrev example_schemes : List SchemeTable
example_schemes =
    record (scheme_of_two 0 1 (sent 0 0 0 1 ∷ sent 1 0 1 0 ∷ [])) {
      kind = SerialImplicit;
      max_iterations = Some (pos 20);
      min_iterations = Some (pos 2);
      measure = record (measure Absolute 1) { strict = true } ∷ record (measure ResidualRelative 0) { suffices = true } ∷ [];
      acceleration = Some (record { kind = Aitken; factor = pos 500000; data_list = data_name 1 ∷ [] });
    }
    ∷ record (scheme_of_two 3 2 (sent 2 3 3 2 ∷ [])) {
      kind = ParallelImplicit;
      max_iterations = Some (pos 1000);
      measure = measure Relative 2 ∷ [];
    }
    ∷ record (scheme_of_two 6 4 (sent 3 6 4 6 ∷ sent 4 6 5 6 ∷ [])) {
      kind = Multi;
      first = None;
      second = None;
      control = Some (part_name 6);
      members = Some (part_name 6 ∷ part_name 4 ∷ part_name 5 ∷ []);
      max_iterations = Some (pos 1);
      measure = record (measure Absolute 4) { strict = true } ∷ [];
      acceleration = Some (record { kind = Constant; factor = pos 1000000; data_list = data_name 3 ∷ [] });
    }
    ∷ scheme_of_two 7 0 (sent 5 7 7 0 ∷ [])
    ∷ record (scheme_of_two 1 2 (sent 6 2 2 1 ∷ [])) { kind = ParallelExplicit }
    ∷ []

abbrev pub example_config : Config
example_config =
    record {
      format = pos 2;
      window_method = Fixed;
      window = pos 10;
      max_time = Some (pos 25);
      max_windows = None;
      data_list = example_data_list;
      mesh = example_meshes;
      participant = example_parts;
      scheme = example_schemes;
    }

-- the same for seven windows, whose end is not told
abbrev pub seven_windows : Config
seven_windows = record example_config { max_time = None; max_windows = Some (pos 7) }
