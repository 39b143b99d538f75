-- The keys of each kind of table. The project's own: the coupling documentation reads XML.
use Rattle.std.specs.Prelude.{ℕ, List, [], ◌∷◌, ◌++◌, ◌^◌, codes}
use Rattle.cpl_tables.specs.declared.kinds.TableKind.{TableKind}
use Rattle.cpl_tables.specs.declared.kinds.Format.{Format}
use Rattle.cpl_tables.specs.declared.kinds.Format.TheVariants.{One, Two}
use Rattle.cpl_tables.specs.declared.kinds.TableKind.TheVariants.{Config, Data, Mesh, Participant, Receives, Write, Read, Map, Watch, Action, Scheme, Exchange, Measure, Acceleration, RowsCase, RodCase, SpringCase, RecordedCase, AnyCase, CaseMesh, Line, Row, Record}
use Rattle.cpl_tables.specs.declared.shapes.Presence.{Presence}
use Rattle.cpl_tables.specs.declared.shapes.Presence.TheVariants.{Required, Optional}
use Rattle.cpl_tables.specs.declared.shapes.Range.TheVariants.{Within, Between}
use Rattle.cpl_tables.specs.declared.shapes.Limit.TheVariants.{Any, Items}
use Rattle.cpl_tables.specs.declared.shapes.Shape.{Shape}
use Rattle.cpl_tables.specs.declared.shapes.Shape.TheVariants.{Name, Text, Word, Boolean, Integer, Number, Names, Integers, Numbers, Points, Pairs, Tables, Table}
use Rattle.cpl_tables.specs.declared.word_lists.WordList.TheVariants.{WindowMethod, DataKind, Direction, Constraint, MapMethod, ActionKind, SchemeKind, MeasureKind, AccelerationKind, Solver, ReadWhen}
use Rattle.cpl_tables.specs.KeyRule.{KeyRule}

abbrev pub required : List ℕ → Shape → KeyRule
required name shape = record { name = name; presence = Required; shape = shape }

abbrev pub optional : List ℕ → Shape → KeyRule
optional name shape = record { name = name; presence = Optional; shape = shape }

-- the keys that are listed in format 2 alone
abbrev pub in_format_two : Format → List KeyRule → List KeyRule
in_format_two One _ = []
in_format_two Two keys = keys

-- the keys of every case file
abbrev pub every_case : List KeyRule
every_case =
    required (codes "solver") (Word Solver)
    ∷ required (codes "step") (Integer (Between 1 (10 ^ 9)))
    ∷ optional (codes "read") (Word ReadWhen)
    ∷ optional (codes "state") (Numbers (Items 1 60000) (Within (10 ^ 13)))
    ∷ optional (codes "fill") (Number (Within (10 ^ 13)))
    ∷ optional (codes "count") (Integer (Between 1 60000))
    ∷ optional (codes "forbid") (Number (Between 1 (10 ^ 13)))
    ∷ required (codes "mesh") (Tables CaseMesh Any) ∷ []

-- the key of every case file but a recorded one
abbrev pub out_keys : List KeyRule
out_keys = optional (codes "out") Integers ∷ []

-- the keys of one kind of solver alone
abbrev pub row_keys : Presence → List KeyRule
row_keys presence = record { name = codes "row"; presence = presence; shape = Tables Row Any } ∷ []

abbrev pub rod_keys : List KeyRule
rod_keys =
    optional (codes "alpha") (Number (Within (10 ^ 9)))
    ∷ optional (codes "beta") (Number (Within (10 ^ 9))) ∷ []

abbrev pub spring_keys : List KeyRule
spring_keys =
    optional (codes "stiff") (Number (Within (10 ^ 9)))
    ∷ optional (codes "damp") (Number (Within (10 ^ 9)))
    ∷ optional (codes "gain") (Number (Within (10 ^ 9)))
    ∷ optional (codes "rate") (Number (Within (10 ^ 9))) ∷ []

abbrev pub record_keys : Presence → List KeyRule
record_keys presence = record { name = codes "record"; presence = presence; shape = Tables Record (Items 0 10000) } ∷ []

-- the keys that are listed for a kind of table
abbrev pub keys_of : TableKind → List KeyRule
keys_of (Config format) =
    required (codes "format") (Integer (Between 1 2))
    ∷ required (codes "window") (Integer (Between 1 (10 ^ 9)))
    ∷ optional (codes "max-time") (Integer (Between 1 (10 ^ 15)))
    ∷ optional (codes "max-windows") (Integer (Between 1 (10 ^ 6)))
    ∷ required (codes "data") (Tables Data (Items 0 64))
    ∷ required (codes "mesh") (Tables Mesh (Items 0 64))
    ∷ required (codes "participant") (Tables (Participant format) (Items 1 64))
    ∷ required (codes "scheme") (Tables Scheme (Items 1 64))
    ∷ in_format_two format (optional (codes "window-method") (Word WindowMethod) ∷ [])
keys_of Data =
    required (codes "name") Name
    ∷ required (codes "kind") (Word DataKind)
    ∷ optional (codes "degree") (Integer (Between 0 1)) ∷ []
keys_of Mesh =
    required (codes "name") Name
    ∷ required (codes "dimensions") (Integer (Between 2 3))
    ∷ required (codes "data") (Names Any) ∷ []
keys_of (Participant format) =
    required (codes "name") Name
    ∷ required (codes "case") Text
    ∷ required (codes "provides") (Names Any)
    ∷ optional (codes "receives") (Tables Receives (Items 0 64))
    ∷ optional (codes "write") (Tables Write (Items 0 64))
    ∷ optional (codes "read") (Tables Read (Items 0 64))
    ∷ optional (codes "map") (Tables (Map format) (Items 0 64))
    ∷ optional (codes "watch") (Tables Watch Any)
    ∷ in_format_two format (optional (codes "action") (Tables Action (Items 0 64)) ∷ [])
keys_of Receives =
    required (codes "mesh") Name
    ∷ required (codes "from") Name ∷ []
keys_of Write =
    required (codes "data") Name
    ∷ required (codes "mesh") Name ∷ []
keys_of Read =
    required (codes "data") Name
    ∷ required (codes "mesh") Name ∷ []
keys_of (Map format) =
    required (codes "direction") (Word Direction)
    ∷ required (codes "from") Name
    ∷ required (codes "to") Name
    ∷ required (codes "constraint") (Word Constraint)
    ∷ in_format_two format (optional (codes "method") (Word MapMethod) ∷ [])
keys_of Watch =
    required (codes "name") Name
    ∷ required (codes "mesh") Name
    ∷ required (codes "at") (Numbers Any (Within (10 ^ 12))) ∷ []
keys_of Action =
    required (codes "kind") (Word ActionKind)
    ∷ required (codes "mesh") Name
    ∷ required (codes "sources") (Names (Items 0 64))
    ∷ required (codes "target") Name ∷ []
keys_of Scheme =
    required (codes "kind") (Word SchemeKind)
    ∷ optional (codes "first") Name
    ∷ optional (codes "second") Name
    ∷ optional (codes "control") Name
    ∷ optional (codes "members") (Names Any)
    ∷ optional (codes "exchange") (Tables Exchange Any)
    ∷ optional (codes "max-iterations") (Integer (Between 1 1000))
    ∷ optional (codes "min-iterations") (Integer (Between 1 1000))
    ∷ optional (codes "measure") (Tables Measure (Items 0 16))
    ∷ optional (codes "acceleration") (Table Acceleration) ∷ []
keys_of Exchange =
    required (codes "data") Name
    ∷ required (codes "mesh") Name
    ∷ required (codes "from") Name
    ∷ required (codes "to") Name
    ∷ optional (codes "initialize") Boolean
    ∷ optional (codes "substeps") Boolean ∷ []
keys_of Measure =
    required (codes "kind") (Word MeasureKind)
    ∷ required (codes "data") Name
    ∷ required (codes "limit") (Number (Between 0 (10 ^ 13)))
    ∷ optional (codes "suffices") Boolean
    ∷ optional (codes "strict") Boolean ∷ []
keys_of Acceleration =
    required (codes "kind") (Word AccelerationKind)
    ∷ required (codes "factor") (Number (Between 1 (10 ^ 6)))
    ∷ required (codes "data") (Names Any) ∷ []
keys_of CaseMesh =
    required (codes "name") Name
    ∷ optional (codes "points") (Points (Items 0 10000) (Within (10 ^ 12)))
    ∷ optional (codes "line") (Table Line) ∷ []
keys_of Line =
    required (codes "from") (Numbers Any (Within (10 ^ 12)))
    ∷ required (codes "to") (Numbers Any (Within (10 ^ 12)))
    ∷ required (codes "count") (Integer (Between 1 10000)) ∷ []
keys_of Row =
    optional (codes "add") (Number (Within (10 ^ 13)))
    ∷ optional (codes "states") (Pairs (Items 0 64) (Within (10 ^ 9)))
    ∷ optional (codes "reads") (Pairs (Items 0 64) (Within (10 ^ 9))) ∷ []
keys_of Record =
    required (codes "dt") (Integer (Between 1 (10 ^ 9)))
    ∷ required (codes "writes") (Numbers Any (Within (10 ^ 13))) ∷ []
keys_of RowsCase = every_case ++ out_keys ++ row_keys Required
keys_of RodCase = every_case ++ out_keys ++ rod_keys
keys_of SpringCase = every_case ++ out_keys ++ spring_keys
keys_of RecordedCase = every_case ++ record_keys Required
keys_of AnyCase = every_case ++ out_keys ++ row_keys Optional ++ rod_keys ++ spring_keys ++ record_keys Optional
