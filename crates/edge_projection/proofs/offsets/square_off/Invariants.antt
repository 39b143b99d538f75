use Rattle.std.proofs.Common.{◌≡◌, ◌*◌, ◌^◌, ◌≤◌, sum_by}
use Rattle.std.specs.List.{range_with_len}
use Rattle.fixed_num.specs.Norm.{square}
use Rattle.edge_projection.specs.Offsets.{offset, coordinate}
use Rattle.edge_projection.proofs.offsets.square_off.Given as goal

-- the sum over the coordinates before i
abbrev pub invariant-loop-i : goal.invariant-loop-i
invariant-loop-i l = record {
  sum : l.sum ≡ sum_by (λ i. square (offset l.weight (coordinate l.p i) (coordinate l.a i) (coordinate l.b i))) (range_with_len 0 l.i);
  bound : l.sum ≤ l.i * (16 * 10 ^ 36);
}
