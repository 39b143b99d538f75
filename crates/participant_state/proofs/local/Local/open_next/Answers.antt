use Rattle.std.proofs.Common.{◌≡◌, false, [], ◌∷◌, map, refl, subst, sym}
use Rattle.participant_words.specs.Begun.{is_last}
use Rattle.participant_words.specs.EventKinds.{kind_of}
use Rattle.participant_words.specs.declared.phase.EventKind.TheVariants.{Take}
use Rattle.participant_state.specs.Answered.{Completes}
use Rattle.participant_state.specs.Agenda.{HasStepped, StandsIn}
use Rattle.participant_state.specs.Member.{Member}
use Rattle.participant_state.proofs.ReplyForgotten.{buffers_stay, filled_still, of_plan_still}
use Rattle.participant_state.proofs.ReplyOut.{has_stepped, something_out}
use Rattle.participant_state.proofs.ReplyStand.{clock_completed, completed_in_time, completed_read, next_there, stands_still}
use Rattle.participant_state.proofs.local.Local.open_next.Goals as goal

pub invariant_of-self : goal.invariant_of-self
invariant_of-self c =
    let s = c.self.inside in
    let is = c.self.invariant in
    let completes = subst (λ (m : Member). Completes m.plan m.part m.course) (sym c.self.view_is) c.requires.completes in
    let more = subst (λ (m : Member). is_last m.plan m.course.turn ≡ false) (sym c.self.view_is) c.requires.more in
    let stepped : HasStepped s.plan s.part s.clock s.passages s.inputs.items s.times.items =
    has_stepped s.plan s.part s.own s.clock s.passages s.inputs.items s.times.items s.queue is.5 completes in
    let out = something_out s.plan s.part s.clock.window s.queue completes in
    rw (c.forget_samples.ensures, c.clear-2.ensures.items, c.completed-self-inside.ensures, c.push.ensures, c.clear.ensures) (
      of_plan_still s.plan s.part s.names s.own s.writes s.reads is.0,
      filled_still s.own s.writes s.times.items is.1,
      completed_in_time s.plan s.part s.clock s.times.items is.2,
      completed_read s.plan s.part s.clock s.times.items is.2 s.own s.reads s.inputs.items is.3,
      is.4,
      (next_there s.plan s.clock s.passages stepped.begun.in_window more, refl),
      stands_still s.plan s.part s.own s.clock (clock_completed s.clock) s.passages s.inputs.items s.times.items s.phase out.0 (map kind_of s.queue.waiting) (Take ∷ [])
          (subst (StandsIn s.plan s.part s.own s.clock s.passages s.inputs.items s.times.items s.phase) out.1 is.6),
      is.7,
    )

pub returns : goal.returns
returns c =
    rw (← c.self.view_is, c.forget_samples.ensures, c.clear-2.ensures.items, c.completed-self-inside.ensures, c.push.ensures, c.clear.ensures, buffers_stay c.self.inside.writes)
    refl
