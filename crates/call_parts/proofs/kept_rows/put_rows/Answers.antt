use Rattle.std.proofs.Common.{◌≡◌, ◌+◌, ◌∷◌, length, append-nil, subst, arith}
use Rattle.std.specs.Vec.Iter.{into_iter_items, into_iter_len}
use Rattle.call_parts.specs.RowsKept.{AreOf}
use Rattle.call_parts.proofs.RowsPut.{one_so_far, all_so_far}
use Rattle.call_parts.proofs.kept_rows.put_rows.Goals as goal
use Rattle.call_parts.proofs.kept_rows.put_rows.Goals.{in-Some, in_default}

pub loop-done-preserved : goal.loop-done-preserved
loop-done-preserved c =
    let rest = into_iter_items c.loop-done.rest in
    let more = into_iter_items c.next.new.self in
    elim c.match-next.branch [
      | in-Some w ↦
          let row = w.in-Some.row in
          let left : rest ≡ row ∷ more = w.in-Some.ensures.cases.0 in
          let fewer : into_iter_len c.next.new.self + 1 ≡ into_iter_len c.loop-done.rest = w.in-Some.ensures.cases.1 in
          let long : length rest ≡ length more + 1 = rw left (omega arith) in
          rw w.rows-is (record {
            put = one_so_far c.args.rows.now.items c.args.new.items c.loop-done.rows.items rest row more w.put_row.new.rows.items
                c.loop-done.invariant.put left w.put_row.ensures.order w.put_row.ensures.put w.put_row.ensures.there;
            room = omega (arith, fewer, w.put_row.ensures.len, w.put_row.ensures.capacity, c.loop-done.invariant.room);
            many = omega (arith, fewer, c.loop-done.invariant.many);
            held = omega (arith, fewer, long, c.loop-done.invariant.held);
          })
      | in_default w ↦
          let none : into_iter_len c.loop-done.rest ≡ 0 = w.in_default.ensures.cases.0 in
          absurd (omega (arith, none, c.loop-done.invariant.many, c.loop-done-test.true))
    ]

pub returns-clause-there : goal.returns-clause-there
returns-clause-there c = λ count are more.
    let rest = into_iter_items c.loop-done.rest in
    let none : length rest ≡ 0 = omega (arith, c.loop-done.invariant.held, c.loop-done.invariant.many, c.loop-done-test.false) in
    let all = all_so_far c.args.rows.now.items c.args.new.items c.loop-done.rows.items rest c.loop-done.invariant.put none in
    subst (AreOf count) (append-nil c.loop-done.rows.items) (all.there count are more)
