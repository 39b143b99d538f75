-- A rod without reads: what flows from a component to its neighbour leaves the sum of all as it is.
use Rattle.std.proofs.Common.{◌≡◌, ℕ, zero, suc, ◌+◌, ◌-◌, ◌*◌, ◌^◌, ◌<◌, ◌≤◌, min, List, [], length, map, ℤ, pos, ◌+ℤ◌, ◌-ℤ◌, ◌*ℤ◌, unsigned_abs, arith, add-one, refl, sym, ap, subst, ◌∙◌}
use Rattle.std.proofs.Math.IntN.{*ℤ-zero, +ℤ_idr}
use Rattle.std.specs.List.{range_with_len}
use Rattle.std.proofs.lemmas.Int.{ints}
use Rattle.std.proofs.lemmas.List.FromFn.{map-range_with_len_more, fill_by_all}
use Rattle.std.proofs.lemmas.List.Sums.{fold_push}
use Rattle.fixed_num.specs.Numbers.{quotient}
use Rattle.fixed_num.proofs.Quotients.{quotient-IsRoundedQuotient}
use Rattle.line_solvers.specs.declared.case.RodNumbers.{RodNumbers}
use Rattle.line_solvers.specs.Components.{component}
use Rattle.line_solvers.specs.RodStep.{bend, rod_slope, rod_component, rod_components}
use Rattle.line_solvers.specs.Laws.{total}
use Rattle.line_solvers.proofs.Signed.{times_sum}

-- the difference across the end of the first k components; none at the ends of the rod
abbrev edge : List ℤ → ℕ → ℤ
edge state k = component state (min k (length state - 1)) -ℤ component state (k - 1)

edge_step : (a b c : ℤ) → (b -ℤ a) +ℤ ((a -ℤ (pos 2 *ℤ b)) +ℤ c) ≡ c -ℤ b
edge_step a b c = omega (arith, ints)

edge_more : (state : List ℤ) (k : ℕ) → k < length state → edge state k +ℤ bend state k ≡ edge state (k + 1)
edge_more state k h =
    let here : min k (length state - 1) ≡ k = omega arith in
    let back : k + 1 - 1 ≡ k = omega arith in
    rw (here, back) (edge_step (component state (k - 1)) (component state k) (component state (min (k + 1) (length state - 1))))

same_apart : (a : ℤ) → a -ℤ a ≡ pos 0
same_apart a = omega (arith, ints)

edge-none : (state : List ℤ) → edge state 0 ≡ pos 0
edge-none state = let first : min 0 (length state - 1) ≡ 0 = omega arith in rw first (same_apart (component state 0))

edge-all : (state : List ℤ) → edge state (length state) ≡ pos 0
edge-all state = let last : min (length state) (length state - 1) ≡ length state - 1 = omega arith in rw last (same_apart (component state (length state - 1)))

-- the first k components, and what becomes of them
abbrev sum_of : (ℕ → ℤ) → ℕ → ℤ
sum_of f k = total (map f (range_with_len 0 k))

sum_of-more : (f : ℕ → ℤ) (k : ℕ) → sum_of f (k + 1) ≡ sum_of f k +ℤ f k
sum_of-more f k =
    ap total (map-range_with_len_more f 0 k k (omega arith)) ∙ fold_push (λ (so_far x : ℤ). so_far +ℤ x) (pos 0) (map f (range_with_len 0 k)) (f k)

-- what flows through the edge in so many ticks
abbrev flow : RodNumbers → (ticks : ℕ) → List ℤ → ℕ → ℤ
flow rod ticks state k = pos ticks *ℤ (rod.alpha *ℤ edge state k)

flow_more : (rod : RodNumbers) (ticks : ℕ) (state : List ℤ) (k : ℕ) → k < length state
    → flow rod ticks state (k + 1) ≡ flow rod ticks state k +ℤ pos ticks *ℤ (rod.alpha *ℤ bend state k)
flow_more rod ticks state k h =
    ap (λ (x : ℤ). pos ticks *ℤ (rod.alpha *ℤ x)) (sym (edge_more state k h))
    ∙ ap (λ (x : ℤ). pos ticks *ℤ x) (times_sum rod.alpha (edge state k) (bend state k))
    ∙ times_sum (pos ticks) (rod.alpha *ℤ edge state k) (rod.alpha *ℤ bend state k)

flow-zero : (rod : RodNumbers) (ticks : ℕ) (state : List ℤ) (k : ℕ) → edge state k ≡ pos 0 → flow rod ticks state k ≡ pos 0
flow-zero rod ticks state k none =
    ap (λ (x : ℤ). pos ticks *ℤ (rod.alpha *ℤ x)) none ∙ ap (λ (x : ℤ). pos ticks *ℤ x) (*ℤ-zero rod.alpha) ∙ *ℤ-zero (pos ticks)

-- the slope without reads
slope-free : (rod : RodNumbers) (state : List ℤ) (k : ℕ) → rod_slope rod state [] k ≡ rod.alpha *ℤ bend state k
slope-free rod state k = ap (λ (x : ℤ). (rod.alpha *ℤ bend state k) +ℤ x) (*ℤ-zero rod.beta) ∙ +ℤ_idr (rod.alpha *ℤ bend state k)

combined : (t s x q c b : ℤ) (k : ℕ) → 2 * unsigned_abs (((t -ℤ s) *ℤ pos (10 ^ 6)) -ℤ c) ≤ k * 10 ^ 6 → 2 * unsigned_abs (b -ℤ (q *ℤ pos (10 ^ 6))) ≤ 10 ^ 6
    → 2 * unsigned_abs ((((t +ℤ (x +ℤ q)) -ℤ (s +ℤ x)) *ℤ pos (10 ^ 6)) -ℤ (c +ℤ b)) ≤ (k + 1) * 10 ^ 6
combined t s x q c b k before rounded = omega (arith, ints)

-- the first k components change by what flows through the edge, but for half a unit each
abbrev IsNear : RodNumbers → (ticks : ℕ) → List ℤ → ℕ → Type 0
IsNear rod ticks state k =
    2 * unsigned_abs (((sum_of (rod_component rod ticks state []) k -ℤ sum_of (component state) k) *ℤ pos (10 ^ 6)) -ℤ flow rod ticks state k) ≤ k * 10 ^ 6

near_more : (rod : RodNumbers) (ticks : ℕ) (state : List ℤ) (k : ℕ) → k < length state → IsNear rod ticks state k → IsNear rod ticks state (k + 1)
near_more rod ticks state k h before =
    let b = pos ticks *ℤ (rod.alpha *ℤ bend state k) in
    let q = quotient (pos ticks *ℤ rod_slope rod state [] k) (10 ^ 6) in
    let slope : pos ticks *ℤ rod_slope rod state [] k ≡ b = ap (λ (x : ℤ). pos ticks *ℤ x) (slope-free rod state k) in
    let near = quotient-IsRoundedQuotient (pos ticks *ℤ rod_slope rod state [] k) (10 ^ 6) (omega arith) in
    let rounded : 2 * unsigned_abs (b -ℤ (q *ℤ pos (10 ^ 6))) ≤ 10 ^ 6 =
    subst (λ (x : ℤ). 2 * unsigned_abs (x -ℤ (q *ℤ pos (10 ^ 6))) ≤ 10 ^ 6) slope near.near in
    let all = combined (sum_of (rod_component rod ticks state []) k) (sum_of (component state) k) (component state k) q (flow rod ticks state k) b k before rounded in
    let made = sum_of-more (rod_component rod ticks state []) k in
    let was = sum_of-more (component state) k in
    let flows = flow_more rod ticks state k h in
    subst (λ (x : ℤ). 2 * unsigned_abs (((x -ℤ sum_of (component state) (k + 1)) *ℤ pos (10 ^ 6)) -ℤ flow rod ticks state (k + 1)) ≤ (k + 1) * 10 ^ 6) (sym made)
    (subst (λ (x : ℤ). 2 * unsigned_abs ((((sum_of (rod_component rod ticks state []) k +ℤ rod_component rod ticks state [] k) -ℤ x) *ℤ pos (10 ^ 6)) -ℤ flow rod ticks state (k + 1)) ≤ (k + 1) * 10 ^ 6) (sym was)
    (subst (λ (x : ℤ). 2 * unsigned_abs ((((sum_of (rod_component rod ticks state []) k +ℤ rod_component rod ticks state [] k) -ℤ (sum_of (component state) k +ℤ component state k)) *ℤ pos (10 ^ 6)) -ℤ x) ≤ (k + 1) * 10 ^ 6) (sym flows) all))

none_near : (c : ℤ) → c ≡ pos 0 → 2 * unsigned_abs (((pos 0 -ℤ pos 0) *ℤ pos (10 ^ 6)) -ℤ c) ≤ 0 * 10 ^ 6
none_near c none = rw none (omega arith)

near_from : (rod : RodNumbers) (ticks : ℕ) (state : List ℤ) (k : ℕ) → k ≤ length state → IsNear rod ticks state k
near_from rod ticks state zero h = none_near (flow rod ticks state 0) (flow-zero rod ticks state 0 (edge-none state))
near_from rod ticks state (suc k) h =
    subst (λ (n : ℕ). IsNear rod ticks state n) (add-one k) (near_more rod ticks state k (omega arith) (near_from rod ticks state k (omega arith)))

whole_near : (d c : ℤ) (n : ℕ) → c ≡ pos 0 → 2 * unsigned_abs ((d *ℤ pos (10 ^ 6)) -ℤ c) ≤ n * 10 ^ 6 → 2 * unsigned_abs d ≤ n
whole_near d c n none near = omega (arith, ints)

pub rod_total : (rod : RodNumbers) (ticks : ℕ) (state : List ℤ) → 2 * unsigned_abs (total (rod_components rod ticks state []) -ℤ total state) ≤ length state
rod_total rod ticks state =
    let near = near_from rod ticks state (length state) (omega arith) in
    let read : state ≡ map (component state) (range_with_len 0 (length state)) = fill_by_all (component state) state (length state) (pos 0) refl (λ k h. refl) in
    let all = whole_near (sum_of (rod_component rod ticks state []) (length state) -ℤ sum_of (component state) (length state)) (flow rod ticks state (length state)) (length state)
    (flow-zero rod ticks state (length state) (edge-all state)) near in
    subst (λ (xs : List ℤ). 2 * unsigned_abs (total (rod_components rod ticks state []) -ℤ total xs) ≤ length state) (sym read) all
