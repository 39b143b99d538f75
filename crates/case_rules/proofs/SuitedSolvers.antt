-- From the description of a solver that can be made to a case that suits its participant.
use Rattle.std.proofs.Common.{◌≡◌, ℕ, ◌+◌, ◌*◌, ◌/◌, ◌%◌, ◌<◌, ◌≤◌, ◌^◌, true, false, ◌==◌, List, [], length, map, get_or, ℤ, pos, negsuc, ◌≤ℤ◌, Option, Some, None, IfSome, All, refl, ap, sym, ◌∙◌, arith}
use Rattle.std.specs.Prelude.{unsigned_abs, unwrap_or, nat_lt, nat_le}
use Rattle.std.specs.List.{list_all, range_with_len}
use Rattle.std.specs.Option.{option_map_or}
use Rattle.std.proofs.lemmas.Bool.{lt-ltb, ltb-true, le-leb, eq-eqb, not_from_false}
use Rattle.std.proofs.lemmas.Nat.{div-add-mod'}
use Rattle.std.proofs.lemmas.List.{length-map, get_or-map}
use Rattle.std.proofs.lemmas.List.FromFn.{length-range_with_len, get_or-range_with_len}
use Rattle.cpl_config.specs.declared.config.Config.{Config}
use Rattle.cpl_config.specs.declared.config.PartTable.{PartTable}
use Rattle.line_solvers.specs.declared.case.Pair.{Pair}
use Rattle.line_solvers.specs.declared.case.RowParts.{RowParts}
use Rattle.line_solvers.specs.declared.case.RecordEntry.{RecordEntry}
use Rattle.line_solvers.specs.declared.case.SolverKind.{SolverKind}
use Rattle.line_solvers.specs.declared.case.SolverKind.TheVariants.{Rows, Rod, Spring, Recorded}
use Rattle.line_solvers.specs.CaseMeaning.{state_of_case, out_of_case, first_out}
use Rattle.line_solvers.specs.CaseSound.{IsSoundCase, IsCaseOfKind, IsCount}
use Rattle.line_solvers.specs.Components.{component}
use Rattle.line_solvers.specs.Sound.{IsPairOf, IsSoundRow, IsSoundRecord}
use Rattle.case_files.specs.declared.case_file.CaseFile.{CaseFile}
use Rattle.case_rules.specs.CaseRules.{has_state, state_length, is_index, has_right_out, has_right_row, first_component, is_whole_to, suits_solver, suits_values, read_values, written_values}
use Rattle.case_rules.specs.SolverCase.{solver_case}
use Rattle.case_rules.proofs.Passing.{both, all_pass}
use Rattle.case_rules.proofs.SolverCases.{size_is, first_is, IfSome-weaker}

-- Indexes

right_index : (count : ℕ) (z : ℤ) → pos 0 ≤ℤ z → unsigned_abs z < count → is_index count z ≡ true
right_index count (pos n) from below = lt-ltb n count below
right_index count (negsuc n) from below = absurd from.le

right_pair : (count : ℕ) (pair : Pair) → IsPairOf count pair → is_index count pair.index ≡ true
right_pair count pair h = right_index count pair.index h.from_zero h.in_range

right_row : (size inputs : ℕ) (row : RowParts) → IsSoundRow size inputs row → has_right_row size inputs row ≡ true
right_row size inputs row h =
    both (list_all (λ (pair : Pair). is_index size pair.index) row.states) (list_all (λ (pair : Pair). is_index inputs pair.index) row.reads)
    (all_pass (λ (pair : Pair). is_index size pair.index) (IsPairOf size) (right_pair size) row.states h.states)
    (all_pass (λ (pair : Pair). is_index inputs pair.index) (IsPairOf inputs) (right_pair inputs) row.reads h.reads)

-- What is written

-- as many components are there as are written, from some one on
few_written : (first size written : ℕ) → All (λ place. place < size) (range_with_len first written) → nat_lt size written ≡ false
few_written first size written each =
    elim (nat_lt size written) as (λ b. nat_lt size written ≡ b → b ≡ false) [
      | true ↦ λ e.
          let over : size < written = ltb-true size written e in
          let there : get_or (range_with_len first written) size 0 < size = each size 0 (omega (arith, over, length-range_with_len first written)) in
          let is : get_or (range_with_len first written) size 0 ≡ first + size = get_or-range_with_len first written size 0 over in
          absurd (omega (arith, there, is))
      | false ↦ λ e. refl
    ] refl

indexes_of : (size : ℕ) (out : List ℤ) → All (λ place. pos 0 ≤ℤ place) out → All (λ place. place < size) (map unsigned_abs out) → All (λ (place : ℤ). is_index size place ≡ true) out
indexes_of size out from below = λ k d within.
    let there : get_or (map unsigned_abs out) k 0 < size = below k 0 (omega (arith, within, length-map out unsigned_abs)) in
    let is : get_or (map unsigned_abs out) k 0 ≡ unsigned_abs (get_or out k d) = get_or-map unsigned_abs out k d 0 within in
    right_index size (get_or out k d) (from k d within) (omega (arith, there, is))

right_out : (first size written : ℕ) (out : Option (List ℤ)) → IfSome out (λ places. All (λ place. pos 0 ≤ℤ place) places) → All (λ place. place < size) (option_map_or (map unsigned_abs) out (range_with_len first written))
    → length (option_map_or (map unsigned_abs) out (range_with_len first written)) ≡ written → has_right_out size written out ≡ true
right_out first size written None from below counted = not_from_false (nat_lt size written) (few_written first size written below)
right_out first size written (Some out) from below counted =
    both (length out == written) (list_all (is_index size) out) (eq-eqb (length out) written (sym (length-map out unsigned_abs) ∙ counted))
    (all_pass (is_index size) (λ (place : ℤ). is_index size place ≡ true) (λ place h. h) out (indexes_of size out from below))

-- The kinds

even_of : (size : ℕ) → size ≡ 2 * (size / 2) → (size % 2 == 0) ≡ true
even_of size h = eq-eqb (size % 2) 0 (omega (arith, h, div-add-mod' size 2))

-- a number of units that is whole, and not over a number
whole_to : (most : ℕ) (z : ℤ) → z ≡ pos (unsigned_abs z / 10 ^ 6 * 10 ^ 6) → unsigned_abs z / 10 ^ 6 ≤ most → is_whole_to most z ≡ true
whole_to most (pos units) is few =
    let same : units ≡ units / 10 ^ 6 * 10 ^ 6 = cc in
    both (units % 10 ^ 6 == 0) (nat_le (units / 10 ^ 6) most) (eq-eqb (units % 10 ^ 6) 0 (omega (arith, same, div-add-mod' units (10 ^ 6)))) (le-leb (units / 10 ^ 6) most few)
whole_to most (negsuc units) is few = absurd (cc)

right_writes : (size written : ℕ) → 1 + written ≡ size → (entry : RecordEntry) → IsSoundRecord size entry → (length entry.writes == written) ≡ true
right_writes size written one_more entry h = eq-eqb (length entry.writes) written (omega (arith, one_more, h.a_value_each))

right_kind : (config : Config) (part : PartTable) (case_file : CaseFile) (size : ℕ) → length (state_of_case (solver_case config part case_file)) ≡ size
    → has_state case_file ≡ true → IfSome case_file.count IsCount → (solver : SolverKind) → IsCaseOfKind solver (solver_case config part case_file) → suits_solver solver size (written_values config part case_file) (read_values config part case_file) case_file ≡ true
right_kind config part case_file size is one counts Rows h =
    let inputs = read_values config part case_file in
    let rows = unwrap_or case_file.row [] in
    both (length rows == size) (list_all (has_right_row size inputs) rows) (eq-eqb (length rows) size (h.a_row_each ∙ is))
    (all_pass (has_right_row size inputs) (IsSoundRow size inputs) (right_row size inputs) rows (rw is at h.rows))
right_kind config part case_file size is one counts Rod h = rw is at h.reads
right_kind config part case_file size is one counts Spring h =
    let halves : size ≡ 2 * (size / 2) = rw is at h.halves in
    both (size % 2 == 0) _ (even_of size halves) (rw is at h.reads)
right_kind config part case_file size is one counts Recorded h =
    let written = written_values config part case_file in
    let records = unwrap_or case_file.records [] in
    let one_more : 1 + written ≡ size = h.a_value_each ∙ is in
    both (size == 1 + written) _ (eq-eqb size (1 + written) (sym one_more))
    (both (is_whole_to (length records) (first_component case_file)) (list_all (λ (entry : RecordEntry). length entry.writes == written) records)
    (ap (is_whole_to (length records)) (first_is case_file.state case_file.fill case_file.count one (IfSome-weaker IsCount (λ n. pos 1 ≤ℤ n) (λ n count. count.least) case_file.count counts)) ∙ whole_to (length records) (component (state_of_case (solver_case config part case_file)) 0) h.whole h.no_more)
    (all_pass (λ (entry : RecordEntry). length entry.writes == written) (IsSoundRecord size) (right_writes size written one_more) records (rw is at h.records)))

-- a case that describes a solver has a state, an output and a kind that suit what its participant reads and writes
pub right_values : (config : Config) (part : PartTable) (case_file : CaseFile) → IsSoundCase (solver_case config part case_file)
    → suits_values (written_values config part case_file) (read_values config part case_file) case_file ≡ true
right_values config part case_file sound =
    let written = written_values config part case_file in
    let inputs = read_values config part case_file in
    let size = state_length case_file in
    let is : length (state_of_case (solver_case config part case_file)) ≡ size = sym (size_is case_file.state case_file.fill case_file.count) in
    let below : All (λ place. place < size) (out_of_case (solver_case config part case_file)) = rw is at sound.out_range in
    both (has_state case_file) _ sound.one_state
    (both (has_right_out size written case_file.out) (suits_solver case_file.solver size written inputs case_file) (right_out (first_out case_file.solver) size written case_file.out sound.out_listed below sound.out_length)
    (right_kind config part case_file size is sound.one_state sound.count case_file.solver sound.kind))
