-- Rows and springs that change nothing.
use Rattle.std.proofs.Common.{◌≡◌, ℕ, Bool, true, false, cond, ◌+◌, ◌-◌, ◌*◌, ◌/◌, ◌^◌, ◌<◌, List, [], ◌++◌, length, get_or, slice_get, Some, map, take, drop, replicate, ℤ, pos, ◌+ℤ◌, ◌-ℤ◌, ◌*ℤ◌, arith, refl, sym, ap, inl, inr, ◌∙◌}
use Rattle.std.specs.Prelude.{◌==◌}
use Rattle.std.proofs.Math.IntN.{*ℤ-zero, +ℤ_idl, +ℤ_idr}
use Rattle.std.specs.List.{range_with_len}
use Rattle.std.proofs.lemmas.Bool.{cases_lt}
use Rattle.std.proofs.lemmas.List.{length-map, length-replicate, get_or-replicate, take-replicate, drop-replicate, replicate-append-replicate, same_lists, get_or-map, get_or_default, get_or_past}
use Rattle.std.proofs.lemmas.List.FromFn.{length-map-range_with_len, get_or-map-range_with_len}
use Rattle.std.proofs.lemmas.Option.{slice_get_within, get_or_from_slice_get}
use Rattle.fixed_num.specs.Numbers.{quotient}
use Rattle.line_solvers.specs.declared.case.RowParts.{RowParts}
use Rattle.line_solvers.specs.declared.case.SpringNumbers.{SpringNumbers}
use Rattle.line_solvers.specs.Components.{component}
use Rattle.line_solvers.specs.RowsStep.{weighted_sum, row_component, rows_components}
use Rattle.line_solvers.specs.Moved.{moved}
use Rattle.line_solvers.specs.SpringStep.{before, after, bend, spring_slope, positions, velocities, new_velocity, new_velocities, new_position, new_positions, moved_by, spring_components}
use Rattle.line_solvers.specs.Laws.{identity_row}
use Rattle.line_solvers.proofs.Signed.{quotient-one, quotient-zero}

-- what an identity row makes, whatever the state and the inputs
row-identity : (state inputs : List ℤ) (i : ℕ) → row_component state inputs (identity_row i) ≡ component state i
unfolding weighted_sum
row-identity state inputs i =
    let one = +ℤ_idr (pos 0 +ℤ pos (10 ^ 6) *ℤ component state i) ∙ +ℤ_idl (pos (10 ^ 6) *ℤ component state i) in
    +ℤ_idl (quotient ((pos 0 +ℤ pos (10 ^ 6) *ℤ component state i) +ℤ pos 0) (10 ^ 6))
    ∙ ap (λ (x : ℤ). quotient x (10 ^ 6)) one ∙ quotient-one (component state i)

pub identity-component : (rows : List RowParts) (state inputs : List ℤ) (i : ℕ) → slice_get rows i ≡ Some (identity_row i)
    → component (rows_components rows state inputs) i ≡ component state i
identity-component rows state inputs i is =
    let within = slice_get_within rows i (identity_row i) is in
    let at : get_or rows i (identity_row i) ≡ identity_row i = get_or_from_slice_get rows i (identity_row i) (identity_row i) is in
    get_or-map (row_component state inputs) rows i (identity_row i) (pos 0) within ∙ ap (λ (row : RowParts). row_component state inputs row) at ∙ row-identity state inputs i

pub identity-state : (state inputs : List ℤ) → rows_components (map identity_row (range_with_len 0 (length state))) state inputs ≡ state
identity-state state inputs =
    let n = length state in
    let rows = map identity_row (range_with_len 0 n) in
    let many : length rows ≡ n = length-map-range_with_len identity_row 0 n in
    same_lists (rows_components rows state inputs) state (length-map rows (row_component state inputs) ∙ many)
    (λ k d h.
    let within : k < length rows = omega (arith, h, length-map rows (row_component state inputs)) in
    let here : k < n = omega (arith, within, many) in
    get_or-map (row_component state inputs) rows k (identity_row 0) d within
    ∙ ap (λ (row : RowParts). row_component state inputs row) (get_or-map-range_with_len identity_row 0 n k k (identity_row 0) here (omega arith))
    ∙ row-identity state inputs k
    ∙ get_or_default state k (pos 0) d here)

-- zeros, and what is made of them
component-zeros : (n i : ℕ) → component (replicate n (pos 0)) i ≡ pos 0
component-zeros n i =
    elim (cases_lt i n) [
      | inl h ↦ get_or-replicate n i (pos 0) (pos 0) h
      | inr h ↦ get_or_past (replicate n (pos 0)) i (pos 0) (omega (arith, h, length-replicate n (pos 0)))
    ]

either_zero : (b : Bool) (x : ℤ) → x ≡ pos 0 → cond b (pos 0) x ≡ pos 0
either_zero b x none = elim b as (λ b. cond b (pos 0) x ≡ pos 0) [ true ↦ refl | false ↦ none ]

sums_zero : (a b c : ℤ) → a ≡ pos 0 → b ≡ pos 0 → c ≡ pos 0 → (a -ℤ b) +ℤ c ≡ pos 0
sums_zero a b c p q r = rw (p, q, r) refl

times_zero : (k x : ℤ) → x ≡ pos 0 → k *ℤ x ≡ pos 0
times_zero k x none = ap (λ (y : ℤ). k *ℤ y) none ∙ *ℤ-zero k

moved-zero : (from slope : ℤ) (ticks : ℕ) → from ≡ pos 0 → slope ≡ pos 0 → moved from slope ticks ≡ pos 0
moved-zero from slope ticks start still =
    ap (λ (x : ℤ). x +ℤ quotient (pos ticks *ℤ slope) (10 ^ 6)) start
    ∙ ap (λ (x : ℤ). pos 0 +ℤ quotient x (10 ^ 6)) (times_zero (pos ticks) slope still)
    ∙ ap (λ (x : ℤ). pos 0 +ℤ x) quotient-zero

map-zero : (f : ℕ → ℤ) (n : ℕ) → ((k : ℕ) → f k ≡ pos 0) → map f (range_with_len 0 n) ≡ replicate n (pos 0)
map-zero f n zero_each =
    let made = length-map-range_with_len f 0 n in
    same_lists (map f (range_with_len 0 n)) (replicate n (pos 0)) (made ∙ sym (length-replicate n (pos 0)))
    (λ k d h.
    let here : k < n = omega (arith, h, made) in
    get_or-map-range_with_len f 0 n k k d here (omega arith) ∙ zero_each k ∙ sym (get_or-replicate n k (pos 0) d here))

velocity-zero : (spring : SpringNumbers) (ticks m i : ℕ) → new_velocity spring ticks (replicate m (pos 0)) (replicate m (pos 0)) [] i ≡ pos 0
velocity-zero spring ticks m i =
    let zeros = replicate m (pos 0) in
    let here = component-zeros m i in
    let bent : bend zeros i ≡ pos 0 =
    sums_zero (before zeros i) (pos 2 *ℤ component zeros i) (after zeros i)
    (either_zero (i == 0) (component zeros (i - 1)) (component-zeros m (i - 1)))
    (times_zero (pos 2) (component zeros i) here)
    (either_zero (i + 1 == length zeros) (component zeros (i + 1)) (component-zeros m (i + 1))) in
    let slope : spring_slope spring zeros zeros [] i ≡ pos 0 =
    sums_zero (spring.stiff *ℤ bend zeros i) (spring.damp *ℤ component zeros i) (spring.gain *ℤ pos 0)
    (times_zero spring.stiff (bend zeros i) bent) (times_zero spring.damp (component zeros i) here) (*ℤ-zero spring.gain) in
    moved-zero (component zeros i) (spring_slope spring zeros zeros [] i) ticks here slope

moved_by-zero : (spring : SpringNumbers) (ticks m : ℕ)
    → moved_by spring.rate ticks (replicate m (pos 0)) (new_velocities spring ticks (replicate m (pos 0)) (replicate m (pos 0)) []) ≡ replicate (2 * m) (pos 0)
moved_by-zero spring ticks m =
    let zeros = replicate m (pos 0) in
    let many : length zeros ≡ m = length-replicate m (pos 0) in
    let vs : new_velocities spring ticks zeros zeros [] ≡ zeros =
    ap (λ (n : ℕ). map (new_velocity spring ticks zeros zeros []) (range_with_len 0 n)) many ∙ map-zero (new_velocity spring ticks zeros zeros []) m (velocity-zero spring ticks m) in
    let xs : new_positions spring.rate ticks zeros zeros ≡ zeros =
    ap (λ (n : ℕ). map (new_position spring.rate ticks zeros zeros) (range_with_len 0 n)) many
    ∙ map-zero (new_position spring.rate ticks zeros zeros) m
    (λ k. moved-zero (component zeros k) (spring.rate *ℤ component zeros k) ticks (component-zeros m k) (times_zero spring.rate (component zeros k) (component-zeros m k))) in
    let twice : m + m ≡ 2 * m = omega arith in
    ap (λ (ws : List ℤ). moved_by spring.rate ticks zeros ws) vs
    ∙ ap (λ (ys : List ℤ). ys ++ zeros) xs
    ∙ replicate-append-replicate m m (pos 0)
    ∙ ap (λ (n : ℕ). replicate n (pos 0)) twice

pub rest_stays : (spring : SpringNumbers) (ticks m : ℕ) → spring_components spring ticks (replicate (2 * m) (pos 0)) [] ≡ replicate (2 * m) (pos 0)
rest_stays spring ticks m =
    let state = replicate (2 * m) (pos 0) in
    let middle : length state / 2 ≡ m = let n = length-replicate (2 * m) (pos 0) in omega arith in
    let left : 2 * m - m ≡ m = omega arith in
    let front : positions state ≡ replicate m (pos 0) = ap (λ (n : ℕ). take n state) middle ∙ take-replicate m (2 * m) (pos 0) (omega arith) in
    let back : velocities state ≡ replicate m (pos 0) =
    ap (λ (n : ℕ). drop n state) middle ∙ drop-replicate m (2 * m) (pos 0) ∙ ap (λ (n : ℕ). replicate n (pos 0)) left in
    ap (λ (xs : List ℤ). moved_by spring.rate ticks xs (new_velocities spring ticks xs (velocities state) [])) front
    ∙ ap (λ (vs : List ℤ). moved_by spring.rate ticks (replicate m (pos 0)) (new_velocities spring ticks (replicate m (pos 0)) vs [])) back
    ∙ moved_by-zero spring ticks m
