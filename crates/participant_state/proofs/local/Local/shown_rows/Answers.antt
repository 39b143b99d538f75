use Rattle.std.proofs.Common.{◌≡◌, Some, map, refl, subst, sym, ap}
use Rattle.std.proofs.lemmas.Result.{IfOk-weaker}
use Rattle.participant_words.specs.Course.{Turn}
use Rattle.participant_words.specs.KnownByReply.{known_by}
use Rattle.participant_words.specs.WatchShown.{watch_rows}
use Rattle.participant_state.specs.Agenda.{HasStepped}
use Rattle.participant_state.specs.Answered.{Completes}
use Rattle.participant_state.specs.Kept.{input_kept, turn_of}
use Rattle.participant_state.specs.Member.{Member}
use Rattle.participant_state.specs.Together.{AreJoined}
use Rattle.participant_state.proofs.ReplyOut.{has_stepped}
use Rattle.participant_state.proofs.ReplyRows.{can_show}
use Rattle.participant_state.proofs.StepWritten.{written_stands}
use Rattle.participant_state.proofs.local.Local.shown_rows.Goals as goal

pub rows-requires : goal.rows-requires
rows-requires c =
    let s = c.self.inside in
    let is = c.self.invariant in
    let passages = c.in-Some.passages in
    let completes = subst (λ (m : Member). Completes m.plan m.part m.course) (sym c.self.view_is) c.requires in
    let stepped : HasStepped s.plan s.part s.clock s.passages s.inputs.items s.times.items =
    has_stepped s.plan s.part s.own s.clock s.passages s.inputs.items s.times.items s.queue is.5 completes in
    let joined : AreJoined s.plan s.part s.own s.received (Some passages) = subst (AreJoined s.plan s.part s.own s.received) c.in-Some.is is.4 in
    rw c.as_slice.ensures.value
    (can_show s.plan s.part c.parts-parts.ensures.valid s.names s.own s.received s.writes s.reads s.clock s.inputs.items s.times.items passages
    is.0 is.1 is.2 is.3 joined.meshes joined.stand
    (subst (λ p. HasStepped s.plan s.part s.clock p s.inputs.items s.times.items) c.in-Some.is stepped))

pub returns : goal.returns
returns c =
    let s = c.self.inside in
    let is = c.self.invariant in
    let passages = c.in-Some.passages in
    let joined : AreJoined s.plan s.part s.own s.received (Some passages) = subst (AreJoined s.plan s.part s.own s.received) c.in-Some.is is.4 in
    let turn : Turn = turn_of s.clock s.inputs.items s.times.items s.writes in
    rw (← c.self.view_is)
    (IfOk-weaker c.rows.result _ (λ rows. watch_rows s.plan s.part (known_by s.plan s.part s.own s.received) turn ≡ rows.items)
    (λ rows told. told s.part (known_by s.plan s.part s.own s.received) turn joined.stand.watches
    (written_stands s.plan s.part c.parts-parts.ensures.valid s.names s.own s.received s.writes s.reads s.times.items is.0 is.1 c.len-count.ensures.shapes s.clock.window s.clock.iteration)
    (ap (map input_kept) (sym c.as_slice.ensures.value)) refl refl)
    c.rows.ensures)
