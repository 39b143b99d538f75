use Rattle.std.proofs.Common.{◌≡◌, inl, ◌<◌, [], ◌∷◌, Some, map, refl, subst, sym}
use Rattle.std.specs.Option.{option_map_or}
use Rattle.coupled_loop.specs.PlanFrames.{group_of, iterations_of}
use Rattle.participant_words.specs.EventKinds.{kind_of}
use Rattle.participant_words.specs.declared.phase.EventKind.TheVariants.{Judge, Take}
use Rattle.participant_state.specs.Agenda.{HasStepped, StandsIn}
use Rattle.participant_state.specs.Member.{Member}
use Rattle.participant_state.proofs.ReplyForgotten.{buffers_stay, filled_still, of_plan_still}
use Rattle.participant_state.proofs.ReplyOut.{has_stepped, out_first_is}
use Rattle.participant_state.proofs.ReplyStand.{again_in_time, again_read, again_there, clock_again, few_again, stands_still}
use Rattle.participant_state.proofs.local.Local.repeat_window.Goals as goal

pub again-self-inside-requires : goal.again-self-inside-requires
again-self-inside-requires c =
    let s = c.self.inside in
    let more = subst (λ (m : Member). m.course.turn.iteration < option_map_or (iterations_of m.plan) (group_of m.plan m.part) 0) (sym c.self.view_is) c.requires.more in
    few_again s.plan c.parts-parts.ensures.valid (group_of s.plan s.part) s.clock.iteration more

pub invariant_of-self : goal.invariant_of-self
invariant_of-self c =
    let s = c.self.inside in
    let is = c.self.invariant in
    let out = subst (λ (m : Member). m.course.out ≡ Some Judge) (sym c.self.view_is) c.requires.out in
    let stepped : HasStepped s.plan s.part s.clock s.passages s.inputs.items s.times.items =
    has_stepped s.plan s.part s.own s.clock s.passages s.inputs.items s.times.items s.queue is.5 (inl out) in
    rw (c.forget_samples.ensures, c.clear-2.ensures.items, c.again-self-inside.ensures, c.push.ensures, c.clear.ensures) (
      of_plan_still s.plan s.part s.names s.own s.writes s.reads is.0,
      filled_still s.own s.writes s.times.items is.1,
      again_in_time s.plan s.part s.clock s.times.items is.2,
      again_read s.own s.reads s.clock s.inputs.items is.3,
      is.4,
      (again_there s.plan s.clock s.passages stepped.begun.in_window, refl),
      stands_still s.plan s.part s.own s.clock (clock_again s.clock) s.passages s.inputs.items s.times.items s.phase Judge (map kind_of s.queue.waiting) (Take ∷ [])
          (subst (StandsIn s.plan s.part s.own s.clock s.passages s.inputs.items s.times.items s.phase) (out_first_is s.queue Judge out) is.6),
      is.7,
    )

pub returns : goal.returns
returns c =
    rw (← c.self.view_is, c.forget_samples.ensures, c.clear-2.ensures.items, c.again-self-inside.ensures, c.push.ensures, c.clear.ensures, buffers_stay c.self.inside.writes)
    refl
