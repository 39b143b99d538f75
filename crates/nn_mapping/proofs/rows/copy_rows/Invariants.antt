use Rattle.std.proofs.Common.{◌≡◌, ℕ, ◌+◌, ◌*◌, ◌<◌, get_or, pos}
use Rattle.nn_mapping.proofs.rows.copy_rows.Given as goal

-- the rows before v are copied
abbrev pub invariant-loop-v : goal.invariant-loop-v
invariant-loop-v l =
    (v c : ℕ) → v < l.v → c < l.row → get_or l.out (v * l.row + c) (pos 0) ≡ get_or l.values (get_or l.nearest v 0 * l.row + c) (pos 0)
