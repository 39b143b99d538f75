-- The case that a table of TOML means: each field is the value of the key of its name, or its default. The project's own.
use Rattle.std.specs.Prelude.{ℕ, List, [], ◌∷◌, map, ℤ, pos, Option, option_map, unwrap_or, codes, if◌then◌else◌}
use Rattle.std.specs.Option.{option_map_or}
use Rattle.std.specs.Str.{bytes_eq}
use Rattle.toml.specs.Data.{Data, Members, get_member}
use Rattle.cpl_tables.specs.Values.{list_of, number_of_pair}
use Rattle.cpl_config.specs.TreeValues.{integer_of, units_of, members_of, text_at, integer_at, units_list_at, list_at, tables_at, integer_if}
use Rattle.line_solvers.specs.declared.case.Pair.{Pair}
use Rattle.line_solvers.specs.declared.case.RowParts.{RowParts}
use Rattle.line_solvers.specs.declared.case.RecordEntry.{RecordEntry}
use Rattle.line_solvers.specs.declared.case.SolverKind.{SolverKind}
use Rattle.line_solvers.specs.declared.case.SolverKind.TheVariants.{Rows, Rod, Spring, Recorded}
use Rattle.line_solvers.specs.declared.case.ReadWhen.{ReadWhen}
use Rattle.line_solvers.specs.declared.case.ReadWhen.TheVariants.{End, Start}
use Rattle.case_files.specs.declared.case_file.CaseFile.{CaseFile}
use Rattle.case_files.specs.declared.case_file.CaseMesh.{CaseMesh}
use Rattle.case_files.specs.declared.case_file.LinePoints.{LinePoints}

-- Words: the last listed one stands for what is not listed, too.

abbrev pub solver_of : List ℕ → SolverKind
solver_of word =
    if bytes_eq word (codes "rows") then Rows
    else if bytes_eq word (codes "rod") then Rod
    else if bytes_eq word (codes "spring") then Spring
    else Recorded

abbrev pub read_when_of : List ℕ → ReadWhen
read_when_of word = if bytes_eq word (codes "start") then Start else End

-- what may be left out, None where it is

abbrev pub units_if : List ℕ → Members → Option ℤ
units_if key members = option_map units_of (get_member key members)

abbrev pub units_list_of : Data → List ℤ
units_list_of value = map units_of (list_of value)

abbrev pub units_list_if : List ℕ → Members → Option (List ℤ)
units_list_if key members = option_map units_list_of (get_member key members)

abbrev pub integers_of : Data → List ℤ
integers_of value = map integer_of (list_of value)

abbrev pub integers_if : List ℕ → Members → Option (List ℤ)
integers_if key members = option_map integers_of (get_member key members)

-- a number, zero where it is left out
abbrev pub units_or_zero : List ℕ → Members → ℤ
units_or_zero key members = option_map_or units_of (get_member key members) (pos 0)

-- Tables

-- a list of an index and a number
abbrev pub index_in_pair : List Data → ℤ
index_in_pair (index ∷ _ ∷ []) = integer_of index
index_in_pair _ = pos 0

abbrev pub pair_of : Data → Pair
pair_of value = record { index = index_in_pair (list_of value); number = unwrap_or (number_of_pair value) (pos 0) }

abbrev pub pairs_at : List ℕ → Members → List Pair
pairs_at key members = map pair_of (list_at key members)

abbrev pub row_of : Members → RowParts
row_of members =
    record {
      add = units_or_zero (codes "add") members;
      states = pairs_at (codes "states") members;
      reads = pairs_at (codes "reads") members;
    }

abbrev pub rows_of : Data → List RowParts
rows_of value = map row_of (map members_of (list_of value))

abbrev pub record_of : Members → RecordEntry
record_of members = record { dt = integer_at (codes "dt") members; writes = units_list_at (codes "writes") members }

abbrev pub records_of : Data → List RecordEntry
records_of value = map record_of (map members_of (list_of value))

abbrev pub line_of : Members → LinePoints
line_of members =
    record {
      from = units_list_at (codes "from") members;
      to = units_list_at (codes "to") members;
      count = integer_at (codes "count") members;
    }

abbrev pub points_of : Data → List (List ℤ)
points_of value = map units_list_of (list_of value)

abbrev pub case_mesh_of : Members → CaseMesh
case_mesh_of members =
    record {
      name = text_at (codes "name") members;
      points = option_map points_of (get_member (codes "points") members);
      line = option_map (λ value. line_of (members_of value)) (get_member (codes "line") members);
    }

abbrev pub case_of : Members → CaseFile
case_of members =
    record {
      solver = solver_of (text_at (codes "solver") members);
      step = integer_at (codes "step") members;
      read = read_when_of (text_at (codes "read") members);
      state = units_list_if (codes "state") members;
      fill = units_if (codes "fill") members;
      count = integer_if (codes "count") members;
      out = integers_if (codes "out") members;
      forbid = units_if (codes "forbid") members;
      mesh = map case_mesh_of (tables_at (codes "mesh") members);
      row = option_map rows_of (get_member (codes "row") members);
      records = option_map records_of (get_member (codes "record") members);
      alpha = units_or_zero (codes "alpha") members;
      beta = units_or_zero (codes "beta") members;
      stiff = units_or_zero (codes "stiff") members;
      damp = units_or_zero (codes "damp") members;
      gain = units_or_zero (codes "gain") members;
      rate = units_or_zero (codes "rate") members;
    }
