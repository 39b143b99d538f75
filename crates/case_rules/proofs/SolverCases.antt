-- From a case that suits its participant to the description of a solver that can be made.
use Rattle.std.proofs.Common.{◌≡◌, ℕ, ◌+◌, ◌*◌, ◌/◌, ◌%◌, ◌<◌, ◌≤◌, ◌^◌, true, ◌==◌, List, [], ◌∷◌, length, map, ℤ, pos, negsuc, ◌≤ℤ◌, Option, Some, None, IfSome, All, refl, ap, sym, ◌∙◌, arith, get_or}
use lib.Dec.{le→leb, leb→le}
use Rattle.std.specs.Prelude.{unsigned_abs, unwrap_or, replicate, is_some, is_none, nat_le, nat_lt, not, if◌then◌else◌, ◌&&◌}
use Rattle.std.specs.List.{list_all, range_with_len}
use Rattle.std.specs.Option.{option_map_or}
use Rattle.std.proofs.lemmas.Bool.{and_parts, leb-true, ltb-true, ltb-false, not-true, eqb-true}
use Rattle.std.proofs.lemmas.Nat.{div-add-mod'}
use Rattle.std.proofs.lemmas.List.{length-map, length-replicate, get_or-replicate}
use Rattle.std.proofs.lemmas.List.Elements.{All-nil, All-cons, All-head, All-tail, All-weaker, All-map}
use Rattle.std.proofs.lemmas.List.FromFn.{length-range_with_len, get_or-range_with_len}
use Rattle.fixed_num.specs.Numbers.{IsValue}
use Rattle.cpl_tables.specs.declared.shapes.Range.TheVariants.{Within, Between}
use Rattle.cpl_config.specs.declared.config.Config.{Config}
use Rattle.cpl_config.specs.declared.config.PartTable.{PartTable}
use Rattle.cpl_config.specs.SoundConfig.{IsIn}
use Rattle.line_solvers.specs.declared.case.Pair.{Pair}
use Rattle.line_solvers.specs.declared.case.RowParts.{RowParts}
use Rattle.line_solvers.specs.declared.case.RecordEntry.{RecordEntry}
use Rattle.line_solvers.specs.declared.case.SolverKind.{SolverKind}
use Rattle.line_solvers.specs.declared.case.SolverKind.TheVariants.{Rows, Rod, Spring, Recorded}
use Rattle.line_solvers.specs.CaseMeaning.{state_of_case, first_out}
use Rattle.line_solvers.specs.Components.{component}
use Rattle.line_solvers.specs.CaseSound.{IsSoundCase, IsCaseOfKind, IsCount}
use Rattle.line_solvers.specs.Sound.{IsPairOf, IsSoundRow, IsSoundRecord}
use Rattle.case_files.specs.declared.case_file.CaseFile.{CaseFile}
use Rattle.case_files.specs.SoundCase.{IsSoundCaseFile, IsStateList, IsCoefficient, IsRecordList, IsSoundRow as IsFileRow, IsSoundRecord as IsFileRecord}
use Rattle.case_rules.specs.CaseRules.{state_length, is_index, has_right_out, has_right_row, has_state, first_component, is_whole_to, suits_solver, suits_values, read_values, written_values}
use Rattle.case_rules.specs.SolverCase.{solver_case}
use Rattle.case_rules.proofs.Passing.{each_passes}

-- Numbers within their ranges

within : (most : ℕ) (z : ℤ) → IsIn (Within most) z → unsigned_abs z ≤ most
within most z h = leb-true (unsigned_abs z) most h

from_least : (least most : ℕ) (z : ℤ) → IsIn (Between least most) z → pos least ≤ℤ z
from_least least most (pos n) h = record { le = le→leb least n (leb-true least n (and_parts _ _ h).0) }
from_least least most (negsuc n) h = cc

to_most : (least most : ℕ) (z : ℤ) → IsIn (Between least most) z → z ≤ℤ pos most
to_most least most (pos n) h = record { le = le→leb n most (leb-true n most (and_parts _ _ h).1) }
to_most least most (negsuc n) h = cc

pub IfSome-weaker : {X : Type 0} (P Q : X → Type 0) → ((x : X) → P x → Q x) → (o : Option X) → IfSome o P → IfSome o Q
IfSome-weaker P Q weaker None h = tt
IfSome-weaker P Q weaker (Some x) h = weaker x h

-- Indexes

index_from : (count : ℕ) (z : ℤ) → is_index count z ≡ true → pos 0 ≤ℤ z
index_from count (pos n) h = record { le = le→leb 0 n (omega arith) }
index_from count (negsuc n) h = cc

index_below : (count : ℕ) (z : ℤ) → is_index count z ≡ true → unsigned_abs z < count
index_below count (pos n) h = ltb-true n count h
index_below count (negsuc n) h = cc

-- The state

pub size_is : (state : Option (List ℤ)) (fill count : Option ℤ)
    → option_map_or (λ components. length components) state (option_map_or unsigned_abs count 0) ≡ length (unwrap_or state (replicate (unsigned_abs (unwrap_or count (pos 0))) (unwrap_or fill (pos 0))))
size_is (Some state) fill count = refl
size_is None fill None = refl
size_is None fill (Some count) = sym (length-replicate (unsigned_abs count) (unwrap_or fill (pos 0)))

state_values : (state : List ℤ) → IsStateList state → All IsValue state
state_values state h = All-weaker _ IsValue (λ z. within (10 ^ 13) z) state h.values

-- What is written

out_listed_of : (size written : ℕ) (out : Option (List ℤ)) → has_right_out size written out ≡ true → IfSome out (λ places. All (λ place. pos 0 ≤ℤ place) places)
out_listed_of size written None h = tt
out_listed_of size written (Some out) h = each_passes (is_index size) (λ place. pos 0 ≤ℤ place) (index_from size) out (and_parts _ _ h).1

few_of : (size written : ℕ) → not (nat_lt size written) ≡ true → written ≤ size
few_of size written h = ltb-false size written (not-true (nat_lt size written) h)

-- where none are listed, there are as many components as are written from the first one on
room : (solver : SolverKind) (size written inputs : ℕ) (case_file : CaseFile) → has_right_out size written None ≡ true → suits_solver solver size written inputs case_file ≡ true → first_out solver + written ≤ size
room Rows size written inputs case_file h k = omega (arith, few_of size written h)
room Rod size written inputs case_file h k = omega (arith, few_of size written h)
room Spring size written inputs case_file h k = omega (arith, few_of size written h)
room Recorded size written inputs case_file h k =
    let one_more : size ≡ 1 + written = eqb-true size (1 + written) (and_parts _ _ k).0 in
    omega (arith, one_more)

out_range_of : (first size written : ℕ) (out : Option (List ℤ)) → (has_right_out size written None ≡ true → first + written ≤ size) → has_right_out size written out ≡ true
    → All (λ place. place < size) (option_map_or (map unsigned_abs) out (range_with_len first written))
out_range_of first size written None few h = λ k d in_list.
    let k_in : k < written = omega (arith, in_list, length-range_with_len first written) in
    let is : get_or (range_with_len first written) k d ≡ first + k = get_or-range_with_len first written k d k_in in
    omega (arith, is, k_in, few h)
out_range_of first size written (Some out) few h =
    All-map (λ place. place < size) unsigned_abs out (each_passes (is_index size) (λ z. unsigned_abs z < size) (index_below size) out (and_parts _ _ h).1)

out_length_of : (first size written : ℕ) (out : Option (List ℤ)) → has_right_out size written out ≡ true → length (option_map_or (map unsigned_abs) out (range_with_len first written)) ≡ written
out_length_of first size written None h = length-range_with_len first written
out_length_of first size written (Some out) h = length-map out unsigned_abs ∙ eqb-true (length out) written (and_parts _ _ h).0

-- Rows

pairs_of : (count : ℕ) (pairs : List Pair) → All (λ pair. IsCoefficient pair.number) pairs → list_all (λ pair. is_index count pair.index) pairs ≡ true → All (IsPairOf count) pairs
pairs_of count [] each h = All-nil (IsPairOf count)
pairs_of count (pair ∷ pairs) each h =
    let parts = and_parts _ _ h in
    All-cons (IsPairOf count) pair pairs
    (record {
      from_zero = index_from count pair.index parts.0;
      in_range = index_below count pair.index parts.0;
      factor = within (10 ^ 9) pair.number (All-head (λ p. IsCoefficient p.number) pair pairs each);
    })
    (pairs_of count pairs (All-tail (λ p. IsCoefficient p.number) pair pairs each) parts.1)

row_of : (size inputs : ℕ) (row : RowParts) → IsFileRow row → has_right_row size inputs row ≡ true → IsSoundRow size inputs row
row_of size inputs row sound h =
    let parts = and_parts _ _ h in
    record {
      add = within (10 ^ 13) row.add sound.add;
      few_states = sound.few_states;
      few_reads = sound.few_reads;
      states = pairs_of size row.states sound.states parts.0;
      reads = pairs_of inputs row.reads sound.reads parts.1;
    }

rows_of : (size inputs : ℕ) (rows : List RowParts) → All IsFileRow rows → list_all (has_right_row size inputs) rows ≡ true → All (IsSoundRow size inputs) rows
rows_of size inputs [] each h = All-nil (IsSoundRow size inputs)
rows_of size inputs (row ∷ rows) each h =
    let parts = and_parts _ _ h in
    All-cons (IsSoundRow size inputs) row rows (row_of size inputs row (All-head IsFileRow row rows each) parts.0)
    (rows_of size inputs rows (All-tail IsFileRow row rows each) parts.1)

listed_rows : (rows : Option (List RowParts)) → IfSome rows (All IsFileRow) → All IsFileRow (unwrap_or rows [])
listed_rows None each = All-nil IsFileRow
listed_rows (Some rows) each = each

-- Records

some_count : (count : ℤ) → pos 1 ≤ℤ count → 1 ≤ unsigned_abs count
some_count (pos n) h = leb→le 1 n h.le
some_count (negsuc n) h = absurd h.le

filled_first : (fill count : ℤ) → pos 1 ≤ℤ count → fill ≡ get_or (replicate (unsigned_abs count) fill) 0 (pos 0)
filled_first fill count h = sym (get_or-replicate (unsigned_abs count) 0 fill (pos 0) (some_count count h))

-- component 0, as it is told, is that of the state
pub first_is : (state : Option (List ℤ)) (fill count : Option ℤ) → (if is_some state then is_none fill && is_none count else is_some fill && is_some count) ≡ true → IfSome count (λ n. pos 1 ≤ℤ n)
    → option_map_or (λ components. get_or components 0 (pos 0)) state (unwrap_or fill (pos 0)) ≡ get_or (unwrap_or state (replicate (unsigned_abs (unwrap_or count (pos 0))) (unwrap_or fill (pos 0)))) 0 (pos 0)
first_is (Some state) fill count one some = refl
first_is None None count one some = absurd (cc)
first_is None (Some fill) None one some = absurd (cc)
first_is None (Some fill) (Some count) one some = filled_first fill count some

whole_of : (most : ℕ) (z : ℤ) → is_whole_to most z ≡ true → (z ≡ pos (unsigned_abs z / 10 ^ 6 * 10 ^ 6)) × (unsigned_abs z / 10 ^ 6 ≤ most)
whole_of most (pos units) h =
    let parts = and_parts (units % 10 ^ 6 == 0) (nat_le (units / 10 ^ 6) most) h in
    let none_left : units % 10 ^ 6 ≡ 0 = eqb-true (units % 10 ^ 6) 0 parts.0 in
    let same : units ≡ units / 10 ^ 6 * 10 ^ 6 = omega (arith, none_left, div-add-mod' units (10 ^ 6)) in
    (ap pos same, leb-true (units / 10 ^ 6) most parts.1)
whole_of most (negsuc units) h = absurd (cc)

few_records : (records : Option (List RecordEntry)) → IfSome records IsRecordList → length (unwrap_or records []) ≤ 10000
few_records None h = omega arith
few_records (Some records) h = h.few

listed_records : (records : Option (List RecordEntry)) → IfSome records IsRecordList → All IsFileRecord (unwrap_or records [])
listed_records None h = All-nil IsFileRecord
listed_records (Some records) h = h.each

records_of : (size written : ℕ) (records : List RecordEntry) → size ≡ 1 + written → All IsFileRecord records → list_all (λ (entry : RecordEntry). length entry.writes == written) records ≡ true → All (IsSoundRecord size) records
records_of size written records one_more each h = λ k d within_list.
    let entry = get_or records k d in
    let file : IsFileRecord entry = each k d within_list in
    let counted : length entry.writes ≡ written =
    each_passes (λ (other : RecordEntry). length other.writes == written) (λ (other : RecordEntry). length other.writes ≡ written) (λ other. eqb-true (length other.writes) written) records h k d within_list in
    record {
      a_tick = from_least 1 (10 ^ 9) entry.dt file.dt;
      step_limit = to_most 1 (10 ^ 9) entry.dt file.dt;
      a_value_each = omega (arith, counted, one_more);
      values = All-weaker _ IsValue (λ z. within (10 ^ 13) z) entry.writes file.writes;
    }

-- The kinds

halves_of : (size : ℕ) → (size % 2 == 0) ≡ true → size ≡ 2 * (size / 2)
halves_of size h = omega (arith, eqb-true (size % 2) 0 h, div-add-mod' size 2)

kind_of : (config : Config) (part : PartTable) (case_file : CaseFile) → IsSoundCaseFile case_file → (size : ℕ) → size ≡ length (state_of_case (solver_case config part case_file))
    → (solver : SolverKind) → case_file.solver ≡ solver → suits_solver solver size (written_values config part case_file) (read_values config part case_file) case_file ≡ true
    → has_state case_file ≡ true → IsCaseOfKind solver (solver_case config part case_file)
kind_of config part case_file sound size is Rows e h one =
    let parts = and_parts _ _ h in
    record {
      has_rows = sound.has_rows e;
      a_row_each = eqb-true _ _ parts.0 ∙ is;
      rows = rw is at (rows_of size (read_values config part case_file) (unwrap_or case_file.row []) (listed_rows case_file.row sound.rows) parts.1);
    }
kind_of config part case_file sound size is Rod e h one =
    record {
      alpha = within (10 ^ 9) case_file.alpha sound.alpha;
      beta = within (10 ^ 9) case_file.beta sound.beta;
      reads = rw is at h;
    }
kind_of config part case_file sound size is Spring e h one =
    let parts = and_parts _ _ h in
    let halves : size ≡ 2 * (size / 2) = halves_of size parts.0 in
    record {
      stiff = within (10 ^ 9) case_file.stiff sound.stiff;
      damp = within (10 ^ 9) case_file.damp sound.damp;
      gain = within (10 ^ 9) case_file.gain sound.gain;
      rate = within (10 ^ 9) case_file.rate sound.rate;
      halves = rw is at halves;
      reads = rw is at parts.1;
    }
kind_of config part case_file sound size is Recorded e h one =
    let written = written_values config part case_file in
    let records = unwrap_or case_file.records [] in
    let parts = and_parts _ _ h in
    let rest = and_parts (is_whole_to (length records) (first_component case_file)) _ parts.1 in
    let one_more : size ≡ 1 + written = eqb-true size (1 + written) parts.0 in
    let first : first_component case_file ≡ component (state_of_case (solver_case config part case_file)) 0 =
    first_is case_file.state case_file.fill case_file.count one (IfSome-weaker (IsIn (Between 1 60000)) (λ n. pos 1 ≤ℤ n) (from_least 1 60000) case_file.count sound.count) in
    let whole = whole_of (length records) (component (state_of_case (solver_case config part case_file)) 0) (sym (ap (is_whole_to (length records)) first) ∙ rest.0) in
    record {
      has_records = sound.has_records e;
      few = few_records case_file.records sound.records;
      records = rw is at (records_of size written records one_more (listed_records case_file.records sound.records) rest.1);
      a_value_each = sym one_more ∙ is;
      whole = whole.0;
      no_more = whole.1;
      nothing_listed = sound.no_out e;
    }

count_of : (count : ℤ) → IsIn (Between 1 60000) count → IsCount count
count_of count h = record { least = from_least 1 60000 count h; most = to_most 1 60000 count h }

-- a case that suits its participant describes a solver
pub sound_case : (config : Config) (part : PartTable) (case_file : CaseFile) → IsSoundCaseFile case_file → suits_values (written_values config part case_file) (read_values config part case_file) case_file ≡ true
    → IsSoundCase (solver_case config part case_file)
sound_case config part case_file sound h =
    let written = written_values config part case_file in
    let size = length (state_of_case (solver_case config part case_file)) in
    let is : state_length case_file ≡ size = size_is case_file.state case_file.fill case_file.count in
    let parts = and_parts _ _ h in
    let suits = and_parts _ _ parts.1 in
    let suits_here : suits_solver case_file.solver size written (read_values config part case_file) case_file ≡ true = sym (ap (λ n. suits_solver case_file.solver n written (read_values config part case_file) case_file) is) ∙ suits.1 in
    let right_out : has_right_out size written case_file.out ≡ true = sym (ap (λ n. has_right_out n written case_file.out) is) ∙ suits.0 in
    record {
      a_tick = from_least 1 (10 ^ 9) case_file.step sound.step;
      step_limit = to_most 1 (10 ^ 9) case_file.step sound.step;
      one_state = parts.0;
      not_empty = IfSome-weaker IsStateList (λ state. 1 ≤ length state) (λ state listed. listed.some_value) case_file.state sound.state;
      not_long = IfSome-weaker IsStateList (λ state. length state ≤ 60000) (λ state listed. listed.not_long) case_file.state sound.state;
      values = IfSome-weaker IsStateList (All IsValue) state_values case_file.state sound.state;
      fill = IfSome-weaker (IsIn (Within (10 ^ 13))) IsValue (within (10 ^ 13)) case_file.fill sound.fill;
      count = IfSome-weaker (IsIn (Between 1 60000)) IsCount count_of case_file.count sound.count;
      forbid = IfSome-weaker (IsIn (Between 1 (10 ^ 13))) (λ bound. pos 1 ≤ℤ bound) (from_least 1 (10 ^ 13)) case_file.forbid sound.forbid;
      out_listed = out_listed_of size written case_file.out right_out;
      out_range = out_range_of (first_out case_file.solver) size written case_file.out (λ right. room case_file.solver size written (read_values config part case_file) case_file right suits_here) right_out;
      out_length = out_length_of (first_out case_file.solver) size written case_file.out right_out;
      kind = kind_of config part case_file sound (state_length case_file) is case_file.solver refl suits.1 parts.0;
    }
