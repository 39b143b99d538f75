-- How many iterations are left, and with them how many entries at most.
use Rattle.std.proofs.Common.{◌≡◌, ℕ, zero, suc, ◌+◌, ◌-◌, ◌*◌, ◌<◌, ◌≤◌, arith, mul-le-mul_right, ap, ◌∙◌}

-- the iterations from the turn (w, k) on, with it
abbrev pub rounds : (windows iterations w k : ℕ) → ℕ
rounds windows iterations w k = (windows + 1 - w) * iterations - (k - 1)

-- the entries after a turn, where a solve has no more than so many steps
abbrev pub after : (rounds steps : ℕ) → ℕ
after left steps = (left - 1) * (steps + 4) + 1

window_less : (m iterations : ℕ) → (m - 1) * iterations ≡ m * iterations - iterations
window_less zero iterations = omega arith
window_less (suc m) iterations = let e : suc m - 1 ≡ m = omega arith in rw e (omega arith)

-- at first all are left
pub first_rounds : (windows iterations steps : ℕ) → rounds windows iterations 1 1 * (steps + 4) ≡ windows * iterations * (steps + 4)
first_rounds windows iterations steps =
    let e : windows + 1 - 1 ≡ windows = omega arith in
    let less : rounds windows iterations 1 1 ≡ (windows + 1 - 1) * iterations = omega arith in
    ap (λ m. m * (steps + 4)) (less ∙ ap (λ m. m * iterations) e)

-- in the next window there are fewer
pub next_window : (windows iterations w k : ℕ) → 1 ≤ k → k ≤ iterations → rounds windows iterations (w + 1) 1 ≤ rounds windows iterations w k - 1
next_window windows iterations w k some few =
    let e : windows + 1 - (w + 1) ≡ windows + 1 - w - 1 = omega arith in
    let less = window_less (windows + 1 - w) iterations in
    let is : (windows + 1 - (w + 1)) * iterations ≡ (windows + 1 - w) * iterations - iterations = ap (λ m. m * iterations) e ∙ less in
    omega arith

-- in the next iteration too
pub next_iteration : (windows iterations w k : ℕ) → 1 ≤ k → rounds windows iterations w (k + 1) ≤ rounds windows iterations w k - 1
next_iteration windows iterations w k some = omega arith

-- the turn itself is left
pub some_round : (windows iterations w k : ℕ) → w ≤ windows → k ≤ iterations → 1 ≤ k → 1 ≤ rounds windows iterations w k
some_round windows iterations w k inside few some =
    let least : 1 * iterations ≤ (windows + 1 - w) * iterations = mul-le-mul_right iterations (omega arith) in
    omega arith

-- what is to be done from a later turn on, before it or within it
pub later_less : (left less steps : ℕ) → less ≤ left - 1 → less * (steps + 4) + 1 ≤ after left steps
later_less left less steps h =
    let product : less * (steps + 4) ≤ (left - 1) * (steps + 4) = mul-le-mul_right (steps + 4) h in
    omega arith

pub turn_less : (left steps : ℕ) → 1 ≤ left → after left steps + steps + 3 < left * (steps + 4) + 1
turn_less zero steps some = absurd (omega arith)
turn_less (suc left) steps some = let e : suc left - 1 ≡ left = omega arith in rw e (omega arith)
