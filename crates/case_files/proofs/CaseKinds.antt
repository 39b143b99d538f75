-- The kind of a case file, by its solver, and the keys that the kind alone has.
use Rattle.std.proofs.Common.{◌≡◌, ℕ, Ordering, Less, Equal, Greater, nat_cmp, is_eq, Bool, true, false, ◌||◌, not, List, [], codes, IsTrue, IsFalse, Option, Some, None, if◌then◌else◌, refl, subst, sym, ◌∙◌}
use Rattle.std.specs.List.{list_any}
use Rattle.std.specs.Option.{option_map_or}
use Rattle.std.specs.Ordering.{match_ordering}
use Rattle.std.specs.Cmp.Lexicographic.{slice_cmp}
use Rattle.std.specs.Str.{bytes_eq}
use Rattle.std.proofs.lemmas.Bool.{or_parts, not-false, false_from_ne_true, both_ways, false≢true, true≢false}
use Rattle.std.proofs.lemmas.Map.Text.{is_eq-slice_cmp}
use Rattle.std.proofs.lemmas.Slice.Eq.{bytes_eq-Decides}
use Rattle.toml.specs.Data.{Data, string, Members, no_members, member, get_member}
use Rattle.cpl_tables.specs.declared.kinds.TableKind.{TableKind}
use Rattle.cpl_tables.specs.declared.kinds.TableKind.TheVariants.{RowsCase, RodCase, SpringCase, RecordedCase, AnyCase}
use Rattle.cpl_tables.specs.declared.shapes.Presence.TheVariants.{Required}
use Rattle.cpl_tables.specs.declared.shapes.Shape.TheVariants.{Word}
use Rattle.cpl_tables.specs.declared.word_lists.WordList.TheVariants.{Solver}
use Rattle.cpl_tables.specs.Values.{text_of}
use Rattle.cpl_rules.specs.SeenTables.{case_kind}
use Rattle.cpl_rules.specs.BrokenRules.{names_in, is_listed}
use Rattle.cpl_config.proofs.SoundValues.{IsRightAt}
use Rattle.line_solvers.specs.declared.case.SolverKind.{SolverKind}
use Rattle.line_solvers.specs.declared.case.SolverKind.TheVariants.{Rows, Rod, Spring, Recorded}
use Rattle.case_files.specs.CaseOf.{solver_of}

-- the kind of a case file, by which of the words its solver is
abbrev kind_by : (rows rod spring recorded : Bool) → TableKind
kind_by rows rod spring recorded =
    if rows then RowsCase else if rod then RodCase else if spring then SpringCase else if recorded then RecordedCase else AnyCase

-- the solver, by the same
abbrev solver_by : (rows rod spring : Bool) → SolverKind
solver_by rows rod spring = if rows then Rows else if rod then Rod else if spring then Spring else Recorded

-- what holds of the five kinds of case files holds of the kind of each
of_words : (P : TableKind → Type 0) (rows rod spring recorded : Bool) → P RowsCase → P RodCase → P SpringCase → P RecordedCase → P AnyCase
    → P (kind_by rows rod spring recorded)
of_words P true rod spring recorded of_rows of_rod of_spring of_recorded of_any = of_rows
of_words P false true spring recorded of_rows of_rod of_spring of_recorded of_any = of_rod
of_words P false false true recorded of_rows of_rod of_spring of_recorded of_any = of_spring
of_words P false false false true of_rows of_rod of_spring of_recorded of_any = of_recorded
of_words P false false false false of_rows of_rod of_spring of_recorded of_any = of_any

pub of_case_kinds : (P : TableKind → Type 0) (o : Option Data) → P RowsCase → P RodCase → P SpringCase → P RecordedCase → P AnyCase → P (case_kind o)
of_case_kinds P None of_rows of_rod of_spring of_recorded of_any = of_any
of_case_kinds P (Some (string word)) of_rows of_rod of_spring of_recorded of_any =
    of_words P (bytes_eq word (codes "rows")) (bytes_eq word (codes "rod")) (bytes_eq word (codes "spring")) (bytes_eq word (codes "recorded"))
    of_rows of_rod of_spring of_recorded of_any
of_case_kinds P (Some _) of_rows of_rod of_spring of_recorded of_any = of_any

-- The solver

rows_word : (rows rod spring recorded : Bool) → solver_by rows rod spring ≡ Rows → kind_by rows rod spring recorded ≡ RowsCase
rows_word true rod spring recorded e = refl
rows_word false true spring recorded e = absurd (cc)
rows_word false false true recorded e = absurd (cc)
rows_word false false false recorded e = absurd (cc)

-- the solver of rows stands in a case file of rows
pub of_rows_solver : (o : Option Data) → IsRightAt Required (Word Solver) o → solver_of (option_map_or text_of o []) ≡ Rows → case_kind o ≡ RowsCase
of_rows_solver None right e = absurd (false≢true right.fits)
of_rows_solver (Some (string word)) right e =
    rows_word (bytes_eq word (codes "rows")) (bytes_eq word (codes "rod")) (bytes_eq word (codes "spring")) (bytes_eq word (codes "recorded")) e
of_rows_solver (Some _) right e = absurd (false≢true right.fits.typed)

recorded_word : (rows rod spring recorded : Bool) → IsTrue (rows || (rod || (spring || (recorded || false)))) → solver_by rows rod spring ≡ Recorded
    → kind_by rows rod spring recorded ≡ RecordedCase
recorded_word true rod spring recorded listed e = absurd (cc)
recorded_word false true spring recorded listed e = absurd (cc)
recorded_word false false true recorded listed e = absurd (cc)
recorded_word false false false true listed e = refl
recorded_word false false false false listed e = absurd (false≢true listed)

-- a recorded participant has a case file of its own kind
pub of_recorded_solver : (o : Option Data) → IsRightAt Required (Word Solver) o → solver_of (option_map_or text_of o []) ≡ Recorded → case_kind o ≡ RecordedCase
of_recorded_solver None right e = absurd (false≢true right.fits)
of_recorded_solver (Some (string word)) right e =
    recorded_word (bytes_eq word (codes "rows")) (bytes_eq word (codes "rod")) (bytes_eq word (codes "spring")) (bytes_eq word (codes "recorded"))
    right.fits.typed e
of_recorded_solver (Some _) right e = absurd (false≢true right.fits.typed)

known_word : (rows rod spring recorded : Bool) → IsTrue (rows || (rod || (spring || (recorded || false)))) → kind_by rows rod spring recorded ≡ AnyCase → ⊥
known_word true rod spring recorded listed e = cc
known_word false true spring recorded listed e = cc
known_word false false true recorded listed e = cc
known_word false false false true listed e = cc
known_word false false false false listed e = false≢true listed

-- a listed solver has a kind of its own
pub of_some_kind : (o : Option Data) → IsRightAt Required (Word Solver) o → case_kind o ≡ AnyCase → ⊥
of_some_kind None right e = false≢true right.fits
of_some_kind (Some (string word)) right e =
    known_word (bytes_eq word (codes "rows")) (bytes_eq word (codes "rod")) (bytes_eq word (codes "spring")) (bytes_eq word (codes "recorded")) right.fits.typed e
of_some_kind (Some _) right e = false≢true right.fits.typed

-- Keys that are not listed

passed_by : (order : Ordering) (value : Data) (rest : Option Data) → IsFalse (is_eq order) → rest ≡ None → match_ordering order rest (Some value) rest ≡ None
passed_by Less value rest apart none = none
passed_by Equal value rest apart none = absurd (true≢false apart)
passed_by Greater value rest apart none = none

other_key : (kind : TableKind) (key name : List ℕ) → IsFalse (is_listed kind key) → IsTrue (is_listed kind name) → IsFalse (bytes_eq key name)
other_key kind key name unlisted listed =
    false_from_ne_true (bytes_eq key name) (λ same.
    both_ways (is_listed kind key) unlisted (subst (λ (text : List ℕ). IsTrue (is_listed kind text)) (sym ((bytes_eq-Decides key name).0 same)) listed))

-- where each key is listed, one that is not listed is not there
pub not_there : (kind : TableKind) (key : List ℕ) → IsFalse (is_listed kind key) → (members : Members)
    → IsFalse (list_any (λ name. not (is_listed kind name)) (names_in members)) → get_member key members ≡ None
not_there kind key unlisted no_members each = refl
not_there kind key unlisted (member name value members) each =
    let parts = or_parts (not (is_listed kind name)) (list_any (λ other. not (is_listed kind other)) (names_in members)) each in
    let apart : IsFalse (bytes_eq key name) = other_key kind key name unlisted (not-false _ parts.0) in
    passed_by (slice_cmp nat_cmp key name) value (get_member key members) (is_eq-slice_cmp key name ∙ apart) (not_there kind key unlisted members parts.1)
