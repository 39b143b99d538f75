use Rattle.std.proofs.Common.{◌<◌, ◌≤◌, ◌++◌, ◌∷◌, List, [], All, take, drop, take-append-drop, ap, ◌∙◌}
use Rattle.cpl_plan.specs.declared.words.WatchRow.{WatchRow}
use Rattle.call_parts.specs.RowsKept.{AreOf, Rising, rows_at}
use Rattle.call_parts.proofs.RowsPut.{rising_with, put_at, there_with}
use Rattle.call_parts.proofs.kept_rows.put_row.Goals as goal

pub returns-clause-order : goal.returns-clause-order
returns-clause-order c =
    let rows = c.args.rows.now.items in
    let place = c.place_behind-place.result in
    let least : All (λ r. r.watch ≤ c.args.row.watch) (take place rows) = rw (← c.as_slice.ensures.value) c.place_behind-place.ensures.before in
    let most : All (λ r. c.args.row.watch < r.watch) (drop place rows) = rw (← c.as_slice.ensures.value) c.place_behind-place.ensures.behind in
    let whole : Rising (take place rows ++ drop place rows) = rw (take-append-drop place rows) c.requires.order in
    rw (c.insert-put.ensures.items, c.insert-put.ensures.succeeds c.requires.room)
    (rising_with c.args.row (take place rows) (drop place rows) whole least most)

pub returns-clause-put : goal.returns-clause-put
returns-clause-put c = λ watch.
    let rows = c.args.rows.now.items in
    let place = c.place_behind-place.result in
    let most : All (λ r. c.args.row.watch < r.watch) (drop place rows) = rw (← c.as_slice.ensures.value) c.place_behind-place.ensures.behind in
    rw (c.insert-put.ensures.items, c.insert-put.ensures.succeeds c.requires.room)
    (put_at c.args.row watch (take place rows) (drop place rows) most
    ∙ ap (λ (xs : List WatchRow). rows_at watch (xs ++ c.args.row ∷ [])) (take-append-drop place rows))

pub returns-clause-there : goal.returns-clause-there
returns-clause-there c = λ count are one.
    let rows = c.args.rows.now.items in
    let place = c.place_behind-place.result in
    let whole : AreOf count (take place rows ++ drop place rows) = rw (take-append-drop place rows) are in
    rw (c.insert-put.ensures.items, c.insert-put.ensures.succeeds c.requires.room)
    (there_with c.args.row count (take place rows) (drop place rows) whole one)
