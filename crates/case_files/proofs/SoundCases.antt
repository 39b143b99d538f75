-- A case file whose tables break no rule means a sound case.
use Rattle.std.proofs.Common.{◌≡◌, ◌^◌, ℕ, List, [], ◌++◌, map, codes, All, IfSome, IsSome, IsNone, IsTrue, IsFalse, Option, Some, None, option_map, refl, sym, lit<}
use Rattle.std.specs.List.{AllByRecursion}
use Rattle.std.specs.Option.{option_map_or}
use Rattle.std.proofs.lemmas.Bool.{false≢true}
use Rattle.toml.specs.Data.{Data, Members, get_member}
use Rattle.cpl_tables.specs.declared.kinds.TableKind.{TableKind}
use Rattle.cpl_tables.specs.declared.kinds.TableKind.TheVariants.{RowsCase, RodCase, SpringCase, RecordedCase, AnyCase, CaseMesh, Line, Row, Record}
use Rattle.cpl_tables.specs.declared.places.Place.{Place}
use Rattle.cpl_tables.specs.declared.places.Place.TheVariants.{Case}
use Rattle.cpl_tables.specs.declared.shapes.Limit.TheVariants.{Any, Items as ItemsLimit}
use Rattle.cpl_tables.specs.declared.shapes.Presence.{Presence}
use Rattle.cpl_tables.specs.declared.shapes.Presence.TheVariants.{Required}
use Rattle.cpl_tables.specs.declared.shapes.Range.TheVariants.{Within}
use Rattle.cpl_tables.specs.declared.shapes.Shape.{Shape}
use Rattle.cpl_tables.specs.declared.shapes.Shape.TheVariants.{Tables, Word}
use Rattle.cpl_tables.specs.declared.word_lists.WordList.TheVariants.{Solver}
use Rattle.cpl_tables.specs.KeyRule.{KeyRule}
use Rattle.cpl_tables.specs.Keys.{keys_of, every_case, out_keys, row_keys, rod_keys, spring_keys, record_keys}
use Rattle.cpl_tables.specs.Values.{text_of, are_distinct_texts}
use Rattle.cpl_rules.specs.Seen.{Seen}
use Rattle.cpl_rules.specs.SeenTables.{tables_of, tables_in, all_tables, case_kind, case_top}
use Rattle.cpl_rules.specs.BrokenRules.{breaks, has_unknown_key, is_listed}
use Rattle.cpl_rules.specs.declared.rules.Rule.TheVariants.{UnknownKey}
use Rattle.cpl_rules.specs.Refused.{IsInOrder}
use Rattle.cpl_config.specs.TreeValues.{tables_at}
use Rattle.cpl_config.proofs.SoundValues.{IsRightAt, name_there, integer_there, integer_if_there, numbers_there, within_limits}
use Rattle.cpl_config.proofs.SoundRules.{each_kept, AreRight, IsRightTable, IsRightSeen}
use Rattle.cpl_config.proofs.SoundTables.{IsRightWithin, all_within, AllUnder, by_keys, under, one_under}
use Rattle.cpl_config.proofs.SoundPicks.{IsPick, pick_outer, pick_under}
use Rattle.cpl_config.proofs.SoundCounts.{distinct_picked}
use Rattle.cpl_config.proofs.SoundConfigs.{IsChecked, checked, pick_of_all, distinct_meant}
use Rattle.line_solvers.specs.declared.case.SolverKind.TheVariants.{Rows, Recorded}
use Rattle.case_files.specs.CaseOf.{units_or_zero, integers_of, solver_of, row_of, rows_of, record_of, records_of, line_of, case_mesh_of, case_of}
use Rattle.case_files.specs.SoundCase.{IsCoefficient, IsSoundRow, IsSoundRecord, IsRecordList, IsSoundLine, IsSoundCaseMesh, IsSoundCaseFile}
use Rattle.case_files.proofs.CaseValues.{number_or_zero, number_if, zero_where_absent, state_if, points_if, pairs_there}
use Rattle.case_files.proofs.CaseKinds.{of_case_kinds, of_rows_solver, of_recorded_solver, of_some_kind, not_there}

-- Meshes and rows

sound_line : (tree : Members) → IsRightTable Line tree → IsSoundLine (line_of tree)
sound_line tree right =
    let keys = right.keys in
    record { from = numbers_there keys.0; to = numbers_there keys.1.0; count = integer_there keys.1.1.0 }

sound_row : (tree : Members) → IsRightTable Row tree → IsSoundRow (row_of tree)
sound_row tree right =
    let keys = right.keys in
    let states = pairs_there keys.1.0 in
    let reads = pairs_there keys.1.1.0 in
    record { add = number_or_zero refl keys.0; few_states = states.few; states = states.numbers; few_reads = reads.few; reads = reads.numbers }

sound_record : (tree : Members) → IsRightTable Record tree → IsSoundRecord (record_of tree)
sound_record tree right = let keys = right.keys in record { dt = integer_there keys.0; writes = numbers_there keys.1.0 }

sound_case_mesh : (place : Place) (tree : Members) → IsRightWithin (record { place = place; kind = CaseMesh; members = tree }) → IsSoundCaseMesh (case_mesh_of tree)
sound_case_mesh place tree right =
    let seen : Seen = record { place = place; kind = CaseMesh; members = tree } in
    let keys = right.itself.keys in
    let inner = by_keys IsRightSeen seen (keys_of CaseMesh) right.inner in
    record {
      name = name_there keys.0;
      points = points_if keys.1.0;
      line = one_under Line IsRightSeen IsSoundLine line_of (λ _. sound_line) seen keys.1.1.0 inner.1.1.0;
    }

-- the rows of a file of rows
sound_rows : (seen : Seen) {presence : Presence} {value : Option Data} → IsRightAt presence (Tables Row Any) value
    → AllByRecursion IsRightWithin (tables_of seen (Tables Row Any) value) → IfSome (option_map rows_of value) (All IsSoundRow)
sound_rows seen {presence} {value = None} right all = tt
sound_rows seen {presence} {value = Some rows} right all =
    under Row IsRightWithin IsSoundRow row_of (λ _ tree inner. sound_row tree inner.itself) seen {value = Some rows} right all

rows_there : {value : Option Data} {shape : Shape} → IsRightAt Required shape value → IsSome (option_map rows_of value)
rows_there {value = None} right = absurd (false≢true right.fits)
rows_there {value = Some rows} right = refl

no_rows : {value : Option Data} → value ≡ None → IfSome (option_map rows_of value) (All IsSoundRow)
no_rows {value = None} absent = tt
no_rows {value = Some rows} absent = absurd (cc)

-- the records of a recorded participant
sound_records : (seen : Seen) {value : Option Data} → IsRightAt Required (Tables Record (ItemsLimit 0 10000)) value
    → AllByRecursion IsRightWithin (tables_of seen (Tables Record (ItemsLimit 0 10000)) value) → IfSome (option_map records_of value) IsRecordList
sound_records seen {value = None} right all = tt
sound_records seen {value = Some records} right all =
    record {
      few = (within_limits record_of {kind = Record} {least = 0} {most = 10000} {o = Some records} right).1;
      each = under Record IsRightWithin IsSoundRecord record_of (λ _ tree inner. sound_record tree inner.itself) seen {value = Some records} right all;
    }

records_there : {value : Option Data} {shape : Shape} → IsRightAt Required shape value → IsSome (option_map records_of value)
records_there {value = None} right = absurd (false≢true right.fits)
records_there {value = Some records} right = refl

no_records : {value : Option Data} → value ≡ None → IfSome (option_map records_of value) IsRecordList
no_records {value = None} absent = tt
no_records {value = Some records} absent = absurd (cc)

no_out : {value : Option Data} → value ≡ None → IsNone (option_map integers_of value)
no_out {value = None} absent = refl
no_out {value = Some places} absent = absurd (cc)

-- what the keys of one kind of solver alone mean
record HasKindKeys (tree : Members) : Type 0 where
  has_rows : solver_of (option_map_or text_of (get_member (codes "solver") tree) []) ≡ Rows → IsSome (option_map rows_of (get_member (codes "row") tree))
  rows : IfSome (option_map rows_of (get_member (codes "row") tree)) (All IsSoundRow)
  has_records : solver_of (option_map_or text_of (get_member (codes "solver") tree) []) ≡ Recorded → IsSome (option_map records_of (get_member (codes "record") tree))
  records : IfSome (option_map records_of (get_member (codes "record") tree)) IsRecordList
  no_out : solver_of (option_map_or text_of (get_member (codes "solver") tree) []) ≡ Recorded → IsNone (option_map integers_of (get_member (codes "out") tree))
  alpha : IsCoefficient (units_or_zero (codes "alpha") tree)
  beta : IsCoefficient (units_or_zero (codes "beta") tree)
  stiff : IsCoefficient (units_or_zero (codes "stiff") tree)
  damp : IsCoefficient (units_or_zero (codes "damp") tree)
  gain : IsCoefficient (units_or_zero (codes "gain") tree)
  rate : IsCoefficient (units_or_zero (codes "rate") tree)

-- the own table of a case file
abbrev case_of_kind : Place → TableKind → Members → Seen
case_of_kind place kind tree = record { place = place; kind = kind; members = tree }

-- whatever the kind is, with its own keys behind those of every case file
module _ (place : Place) (kind : TableKind) (own : List KeyRule) (tree : Members)
    (keys : AreRight (every_case ++ own) tree)
    (tables : AllUnder IsRightWithin (case_of_kind place kind tree) (every_case ++ own))
    (meshes : IsPick CaseMesh (tables_at (codes "mesh") tree) (all_tables (case_of_kind place kind tree)))
    (file : IsChecked (all_tables (case_of_kind place kind tree))) where
  mesh_once : IsTrue (are_distinct_texts (map (λ mesh. mesh.name) (map case_mesh_of (tables_at (codes "mesh") tree))))
  mesh_once =
      distinct_meant case_mesh_of (λ mesh. mesh.name) (tables_at (codes "mesh") tree) _ refl
      (distinct_picked CaseMesh refl (λ _ right. right.keys.0) meshes file.once file.right)

  sound_with : HasKindKeys tree → IsSoundCaseFile (case_of tree)
  sound_with kind_keys =
      let state = keys.1.1.1 in
      let forbid = state.1.1.1 in
      record {
        step = integer_there keys.1.0;
        state = state_if state.0;
        fill = number_if state.1.0;
        count = integer_if_there state.1.1.0;
        forbid = number_if forbid.0;
        meshes = under CaseMesh IsRightWithin IsSoundCaseMesh case_mesh_of sound_case_mesh (case_of_kind place kind tree) forbid.1.0 tables.1.1.1.1.1.1.1.0;
        mesh_once = mesh_once;
        has_rows = kind_keys.has_rows;
        rows = kind_keys.rows;
        has_records = kind_keys.has_records;
        records = kind_keys.records;
        no_out = kind_keys.no_out;
        alpha = kind_keys.alpha;
        beta = kind_keys.beta;
        stiff = kind_keys.stiff;
        damp = kind_keys.damp;
        gain = kind_keys.gain;
        rate = kind_keys.rate;
      }

-- Kind by kind

-- a file of records alone has a recorded participant
not_recorded : (kind : TableKind) (solver : Option Data) → kind ≡ case_kind solver → (RecordedCase ≡ kind → ⊥) → IsRightAt Required (Word Solver) solver → solver_of (option_map_or text_of solver []) ≡ Recorded → ⊥
not_recorded kind solver is apart right e = apart (let of_recorded = of_recorded_solver solver right e in cc)

-- a file of rows alone has the solver of rows
not_rows : (kind : TableKind) (solver : Option Data) → kind ≡ case_kind solver → (RowsCase ≡ kind → ⊥) → IsRightAt Required (Word Solver) solver → solver_of (option_map_or text_of solver []) ≡ Rows → ⊥
not_rows kind solver is apart right e = apart (let of_rows = of_rows_solver solver right e in cc)

module _ (place : Place) (tree : Members) where
  abbrev Sound : TableKind → Type 0
  Sound kind = kind ≡ case_kind (get_member (codes "solver") tree) → IsInOrder (case_of_kind place kind tree) → IsSoundCaseFile (case_of tree)

  -- a number of another kind of solver is left out
  other : (kind : TableKind) (key : List ℕ) → IsFalse (has_unknown_key (case_of_kind place kind tree)) → IsFalse (is_listed kind key) → IsCoefficient (units_or_zero key tree)
  other kind key known unlisted = zero_where_absent (Within (10 ^ 9)) refl (not_there kind key unlisted tree known)

  tables_of_kind : (kind : TableKind) → IsChecked (all_tables (case_of_kind place kind tree)) → AllUnder IsRightWithin (case_of_kind place kind tree) (keys_of kind)
  tables_of_kind kind file = by_keys IsRightWithin (case_of_kind place kind tree) (keys_of kind) (all_within (tables_in (case_of_kind place kind tree)) file.right.1)

  known_keys : (kind : TableKind) → IsInOrder (case_of_kind place kind tree) → IsFalse (has_unknown_key (case_of_kind place kind tree))
  known_keys kind in_order = (each_kept (breaks UnknownKey) (all_tables (case_of_kind place kind tree)) (in_order UnknownKey)).0

  sound_of_rows : Sound RowsCase
  sound_of_rows is in_order =
      let top = case_of_kind place RowsCase tree in
      let file = checked top in_order in
      let keys : AreRight (keys_of RowsCase) tree = file.right.0.keys in
      let tables = tables_of_kind RowsCase file in
      let known = known_keys RowsCase in_order in
      let row = keys.1.1.1.1.1.1.1.1.1.0 in
      sound_with place RowsCase (out_keys ++ row_keys Required) tree keys tables (pick_of_all top 7 (lit< tt) (pick_outer (pick_under top keys.1.1.1.1.1.1.1.0))) file
      (record {
        has_rows = λ _. rows_there row;
        rows = sound_rows top row tables.1.1.1.1.1.1.1.1.1.0;
        has_records = λ solver. absurd (not_recorded RowsCase (get_member (codes "solver") tree) is (λ e. cc) keys.0 solver);
        records = no_records (not_there RowsCase (codes "record") refl tree known);
        no_out = λ solver. absurd (not_recorded RowsCase (get_member (codes "solver") tree) is (λ e. cc) keys.0 solver);
        alpha = other RowsCase (codes "alpha") known refl;
        beta = other RowsCase (codes "beta") known refl;
        stiff = other RowsCase (codes "stiff") known refl;
        damp = other RowsCase (codes "damp") known refl;
        gain = other RowsCase (codes "gain") known refl;
        rate = other RowsCase (codes "rate") known refl;
      })

  sound_of_rod : Sound RodCase
  sound_of_rod is in_order =
      let top = case_of_kind place RodCase tree in
      let file = checked top in_order in
      let keys : AreRight (keys_of RodCase) tree = file.right.0.keys in
      let known = known_keys RodCase in_order in
      let own = keys.1.1.1.1.1.1.1.1.1 in
      sound_with place RodCase (out_keys ++ rod_keys) tree keys (tables_of_kind RodCase file) (pick_of_all top 7 (lit< tt) (pick_outer (pick_under top keys.1.1.1.1.1.1.1.0))) file
      (record {
        has_rows = λ solver. absurd (not_rows RodCase (get_member (codes "solver") tree) is (λ e. cc) keys.0 solver);
        rows = no_rows (not_there RodCase (codes "row") refl tree known);
        has_records = λ solver. absurd (not_recorded RodCase (get_member (codes "solver") tree) is (λ e. cc) keys.0 solver);
        records = no_records (not_there RodCase (codes "record") refl tree known);
        no_out = λ solver. absurd (not_recorded RodCase (get_member (codes "solver") tree) is (λ e. cc) keys.0 solver);
        alpha = number_or_zero refl own.0;
        beta = number_or_zero refl own.1.0;
        stiff = other RodCase (codes "stiff") known refl;
        damp = other RodCase (codes "damp") known refl;
        gain = other RodCase (codes "gain") known refl;
        rate = other RodCase (codes "rate") known refl;
      })

  sound_of_spring : Sound SpringCase
  sound_of_spring is in_order =
      let top = case_of_kind place SpringCase tree in
      let file = checked top in_order in
      let keys : AreRight (keys_of SpringCase) tree = file.right.0.keys in
      let known = known_keys SpringCase in_order in
      let own = keys.1.1.1.1.1.1.1.1.1 in
      sound_with place SpringCase (out_keys ++ spring_keys) tree keys (tables_of_kind SpringCase file) (pick_of_all top 7 (lit< tt) (pick_outer (pick_under top keys.1.1.1.1.1.1.1.0))) file
      (record {
        has_rows = λ solver. absurd (not_rows SpringCase (get_member (codes "solver") tree) is (λ e. cc) keys.0 solver);
        rows = no_rows (not_there SpringCase (codes "row") refl tree known);
        has_records = λ solver. absurd (not_recorded SpringCase (get_member (codes "solver") tree) is (λ e. cc) keys.0 solver);
        records = no_records (not_there SpringCase (codes "record") refl tree known);
        no_out = λ solver. absurd (not_recorded SpringCase (get_member (codes "solver") tree) is (λ e. cc) keys.0 solver);
        alpha = other SpringCase (codes "alpha") known refl;
        beta = other SpringCase (codes "beta") known refl;
        stiff = number_or_zero refl own.0;
        damp = number_or_zero refl own.1.0;
        gain = number_or_zero refl own.1.1.0;
        rate = number_or_zero refl own.1.1.1.0;
      })

  sound_of_recorded : Sound RecordedCase
  sound_of_recorded is in_order =
      let top = case_of_kind place RecordedCase tree in
      let file = checked top in_order in
      let keys : AreRight (keys_of RecordedCase) tree = file.right.0.keys in
      let tables = tables_of_kind RecordedCase file in
      let known = known_keys RecordedCase in_order in
      let records = keys.1.1.1.1.1.1.1.1.0 in
      sound_with place RecordedCase (record_keys Required) tree keys tables (pick_of_all top 7 (lit< tt) (pick_outer (pick_under top keys.1.1.1.1.1.1.1.0))) file
      (record {
        has_rows = λ solver. absurd (not_rows RecordedCase (get_member (codes "solver") tree) is (λ e. cc) keys.0 solver);
        rows = no_rows (not_there RecordedCase (codes "row") refl tree known);
        has_records = λ _. records_there records;
        records = sound_records top records tables.1.1.1.1.1.1.1.1.0;
        no_out = λ _. no_out (not_there RecordedCase (codes "out") refl tree known);
        alpha = other RecordedCase (codes "alpha") known refl;
        beta = other RecordedCase (codes "beta") known refl;
        stiff = other RecordedCase (codes "stiff") known refl;
        damp = other RecordedCase (codes "damp") known refl;
        gain = other RecordedCase (codes "gain") known refl;
        rate = other RecordedCase (codes "rate") known refl;
      })

  -- a file without a listed solver breaks a rule
  sound_of_any : Sound AnyCase
  sound_of_any is in_order =
      let keys : AreRight (keys_of AnyCase) tree = (checked (case_of_kind place AnyCase tree) in_order).right.0.keys in
      absurd (of_some_kind (get_member (codes "solver") tree) keys.0 (sym is))

-- a case file whose tables break no rule means a sound case
pub case_in_order : (number : ℕ) (tree : Members) → IsInOrder (case_top number tree) → IsSoundCaseFile (case_of tree)
case_in_order number tree in_order =
    let solver = get_member (codes "solver") tree in
    of_case_kinds (Sound (Case number) tree) solver (sound_of_rows (Case number) tree) (sound_of_rod (Case number) tree) (sound_of_spring (Case number) tree) (sound_of_recorded (Case number) tree) (sound_of_any (Case number) tree) refl in_order
