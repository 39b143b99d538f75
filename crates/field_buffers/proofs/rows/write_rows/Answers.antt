use Rattle.std.proofs.Common.{◌≡◌, ◌*◌, arith, ◌∙◌, sym, drop}
use Rattle.field_buffers.proofs.RowWrites.{with_rows-next, with_rows-none}
use Rattle.field_buffers.proofs.rows.write_rows.Goals as goal

pub loop-i-preserved : goal.loop-i-preserved
loop-i-preserved c =
    with_rows-next c.args.components c.loop-i.i _ _ c.args.vertices.now c.args.rows.now c.loop-i.values c.write_row.new.out c.loop-i-test.true (omega arith) (omega arith) c.write_row.ensures
    ∙ c.loop-i.invariant

pub returns : goal.returns
returns c =
    sym (with_rows-none c.args.components c.loop-i.i c.args.vertices.now (drop (c.loop-i.i * c.args.components) c.args.rows.now) c.loop-i.values (omega (arith, c.loop-i-test.false)))
    ∙ c.loop-i.invariant
