use Rattle.std.proofs.Common.{refl}
use Rattle.participant_state.proofs.ReplyForgotten.{buffers_stay, filled_still, of_plan_still}
use Rattle.participant_state.proofs.ReplyStand.{completed_in_time, completed_read}
use Rattle.participant_state.proofs.local.Local.end_windows.Goals as goal

pub invariant_of-self : goal.invariant_of-self
invariant_of-self c =
    let s = c.self.inside in
    let is = c.self.invariant in
    rw (c.forget_samples.ensures, c.clear-2.ensures.items, c.completed-self-inside.ensures, c.clear.ensures) (
      of_plan_still s.plan s.part s.names s.own s.writes s.reads is.0,
      filled_still s.own s.writes s.times.items is.1,
      completed_in_time s.plan s.part s.clock s.times.items is.2,
      completed_read s.plan s.part s.clock s.times.items is.2 s.own s.reads s.inputs.items is.3,
      is.4,
      tt,
      tt,
      is.7,
    )

pub returns : goal.returns
returns c =
    rw (← c.self.view_is, c.forget_samples.ensures, c.clear-2.ensures.items, c.completed-self-inside.ensures, c.clear.ensures, buffers_stay c.self.inside.writes)
    refl
