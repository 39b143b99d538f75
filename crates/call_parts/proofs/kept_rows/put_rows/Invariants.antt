use Rattle.std.proofs.Common.{◌≡◌, ◌+◌, ◌≤◌, length}
use Rattle.std.specs.Vec.{vec_len, vec_capacity}
use Rattle.std.specs.Vec.Iter.{into_iter_items, into_iter_len}
use Rattle.call_parts.proofs.RowsPut.{AreSoFar}
use Rattle.call_parts.proofs.kept_rows.put_rows.Given as goal

-- some rows are put, and there is room for those that are left
abbrev pub invariant-loop-done : goal.invariant-loop-done
invariant-loop-done l = record {
  put : AreSoFar l.fn.rows.items l.fn.new.items l.rows.items (into_iter_items l.rest);
  room : vec_len l.rows + into_iter_len l.rest ≤ vec_capacity l.rows;
  many : l._done + into_iter_len l.rest ≡ l.count;
  held : into_iter_len l.rest ≡ length (into_iter_items l.rest);
}
