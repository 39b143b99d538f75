use Rattle.std.proofs.Common.{◌≡◌, ◌<◌, ℕ, nat_le, get_or, arith}
use Rattle.std.proofs.lemmas.Bool.{lt-leb}
use Rattle.field_buffers.proofs.Walks.{find-next, All-more, All-whole}
use Rattle.field_buffers.proofs.refusals.first_bad_vertex.Goals as goal

pub loop-i-preserved : goal.loop-i-preserved
loop-i-preserved c = (
  find-next (λ v. nat_le c.args.size v) c.args.vertices.now c.loop-i.i 0 c.loop-i-test.true (lt-leb c.args.size (get_or c.args.vertices.now c.loop-i.i 0) (omega (arith, c.if-size-vertices.false))) c.loop-i.invariant.0,
  All-more (λ v. v < c.args.size) c.args.vertices.now c.loop-i.i 0 c.loop-i-test.true c.loop-i.invariant.1 (omega (arith, c.if-size-vertices.false)),
)

pub returns-clause-none : goal.returns-clause-none
returns-clause-none c = All-whole (λ v. v < c.args.size) c.args.vertices.now c.loop-i.i (omega (arith, c.loop-i-test.false)) c.loop-i.invariant.1
