use Rattle.std.proofs.Common.{◌≡◌, ℕ, List, ◌++◌, length, refl, subst, sym}
use Rattle.cpl_plan.specs.declared.words.WatchRow.{WatchRow}
use Rattle.participant_words.specs.Course.{Turn, known}
use Rattle.participant_words.specs.KnownByReply.{known_by}
use Rattle.participant_words.specs.WatchShown.{by_watch, watch_rows, watches}
use Rattle.participant_state.specs.Kept.{turn_of}
use Rattle.participant_state.specs.Member.{Member}
use Rattle.call_parts.specs.RowsKept.{AreOf, rows_at}
use Rattle.participant_state.proofs.ReplyRows.{rows_of_watches}
use Rattle.call_parts.proofs.RowsPut.{put_by_watch}
use Rattle.participant_state.proofs.local.Local.keep_rows.Goals as goal

pub invariant_of-self-2 : goal.invariant_of-self-2
invariant_of-self-2 c =
    let s = c.self.inside in
    let is = c.self.invariant in
    let count : ℕ = length (watches s.plan s.part) in
    let turn : Turn = turn_of s.clock s.inputs.items s.times.items s.writes in
    let shown = subst (λ (m : Member). watch_rows m.plan m.part (known m.plan m.part m.course) m.course.turn ≡ c.in_ok-rows.rows.items) (sym c.self.view_is) c.in_ok-rows.ensures in
    let new : AreOf count c.in_ok-rows.rows.items = subst (AreOf count) shown (rows_of_watches s.plan s.part (known_by s.plan s.part s.own s.received) turn) in
    (is.0, is.1, is.2, is.3, is.4, is.5, is.6, record { rising = c.in_ok-put_rows.ensures.order; there = c.put_rows.ensures.there count is.7.there new })

pub returns-clause-done : goal.returns-clause-done
returns-clause-done c =
    let s = c.self.inside in
    let is = c.self.invariant in
    let count : ℕ = length (watches s.plan s.part) in
    let turn : Turn = turn_of s.clock s.inputs.items s.times.items s.writes in
    let all : List WatchRow = watch_rows s.plan s.part (known_by s.plan s.part s.own s.received) turn in
    let shown = subst (λ (m : Member). watch_rows m.plan m.part (known m.plan m.part m.course) m.course.turn ≡ c.in_ok-rows.rows.items) (sym c.self.view_is) c.in_ok-rows.ensures in
    let new : AreOf count c.in_ok-rows.rows.items = subst (AreOf count) shown (rows_of_watches s.plan s.part (known_by s.plan s.part s.own s.received) turn) in
    let same : (watch : ℕ) → rows_at watch c.put_rows.new.rows.items ≡ rows_at watch (s.rows.items ++ all) =
    subst (λ (rows : List WatchRow). (watch : ℕ) → rows_at watch c.put_rows.new.rows.items ≡ rows_at watch (s.rows.items ++ rows)) (sym shown) c.in_ok-put_rows.ensures.put in
    let put : c.put_rows.new.rows.items ≡ by_watch (watches s.plan s.part) (s.rows.items ++ all) =
    put_by_watch count c.put_rows.new.rows.items (s.rows.items ++ all) c.in_ok-put_rows.ensures.order (c.put_rows.ensures.there count is.7.there new) same in
    rw (← c.self.view_is, put) refl
