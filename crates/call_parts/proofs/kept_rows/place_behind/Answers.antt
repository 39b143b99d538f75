use Rattle.std.proofs.Common.{◌≡◌, ◌-◌, ◌+◌, ◌<◌, ◌≤◌, ℕ, suc, All, length, take, get_or, subst, arith}
use Rattle.call_parts.proofs.RowsPut.{before_place, behind_place}
use Rattle.call_parts.proofs.kept_rows.place_behind.Goals as goal

pub returns-then-rows-place-clause-before : goal.returns-then-rows-place-clause-before
returns-then-rows-place-clause-before c =
    let rows = c.args.rows.now in
    let last : ℕ = length rows - c.loop-i.i - 1 in
    let row = c.index-rows-place.result in
    let next : suc last ≡ length rows - c.loop-i.i = omega arith in
    let low : (get_or rows last row).watch ≤ c.args.watch = c.if-rows-place.true in
    subst (λ n. All (λ r. r.watch ≤ c.args.watch) (take n rows)) next
    (before_place rows last c.args.watch row c.requires (omega arith) low)

pub loop-i-preserved : goal.loop-i-preserved
loop-i-preserved c =
    let rows = c.args.rows.now in
    let last : ℕ = length rows - (c.loop-i.i + 1) in
    let row = c.index-rows-place.result in
    let same : length rows - c.loop-i.i - 1 ≡ last = omega arith in
    let high : c.args.watch < (get_or rows last row).watch = rw (← same) c.if-rows-place.false in
    behind_place rows last (length rows - c.loop-i.i) c.args.watch row (omega arith) (omega arith) high c.loop-i.invariant
