use Rattle.std.proofs.Common.{◌≡◌, ℕ, ◌+◌, ◌*◌, ◌<◌, get_or, pos}
use Rattle.edge_projection.specs.MappedField.{between, foot_number}
use Rattle.edge_projection.proofs.rows.write_rows.Given as goal

-- the rows before v are written
abbrev pub invariant-loop-v : goal.invariant-loop-v
invariant-loop-v l =
    (v c : ℕ) → v < l.v → c < l.row
    → get_or l.out (v * l.row + c) (pos 0)
    ≡ between (foot_number l.feet v).weight
    (get_or l.values ((foot_number l.feet v).a * l.row + c) (pos 0))
    (get_or l.values ((foot_number l.feet v).b * l.row + c) (pos 0))
