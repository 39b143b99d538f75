use Rattle.std.proofs.Common.{◌≡◌, List, [], map, None, Ok, ap, refl, sym, subst, ◌∙◌}
use Rattle.wave_coupling.specs.MappedInputs.{mapped_inputs}
use Rattle.participant_words.specs.Begun.{input_wave_of, newest_input_time}
use Rattle.participant_words.specs.Course.{known}
use Rattle.participant_words.specs.Replied.{turn_begun}
use Rattle.participant_words.specs.Replies.{AreInputs}
use Rattle.participant_words.specs.declared.phase.EventKind.{EventKind}
use Rattle.participant_state.specs.Agenda.{Stands}
use Rattle.participant_state.specs.Kept.{input_kept}
use Rattle.participant_state.specs.Member.{Member}
use Rattle.participant_state.proofs.JoinBegun.{agenda_through, read_begun, stands_begun, started_is, time_begun}
use Rattle.participant_state.proofs.JoinTurn.{buffers_stay, filled_anew, plan_stays}
use Rattle.participant_state.proofs.local.Local.begin_turn.Goals as goal

pub invariant_of-self : goal.invariant_of-self
invariant_of-self c =
    let l = c.self.inside in
    let is = c.self.invariant in
    let told = c.started-self-inside.ensures in
    let out = ap (λ (m : Member). m.course.out) c.self.view_is ∙ c.requires.out in
    let come = subst (λ (m : Member). AreInputs m.plan m.part m.course c.args.inputs.now) (sym c.self.view_is) c.requires.inputs in
    let made = subst (λ (m : Member). mapped_inputs m.plan m.part (known m.plan m.part m.course) m.course.turn.window m.course.turn.iteration (map input_wave_of c.args.inputs.now) ≡ Ok (map input_kept c.args.kept.items))
    (sym c.self.view_is) c.requires.mapped in
    let through = agenda_through l.plan l.part l.names l.own l.writes l.reads l.clock l.passages l.inputs.items l.times.items l.queue is.0 is.2 is.5 out in
    rw (c.forget_samples.ensures, c.clear.ensures.items, c.answered.ensures) (
      plan_stays l.plan l.part l.names l.own l.writes l.reads is.0,
      filled_anew l.own l.writes l.times.items is.1,
      time_begun l.plan l.part l.names l.own l.writes l.reads l.clock l.passages l.inputs.items l.times.items l.queue is.0 is.2 is.5 out
          _ c.args.inputs.now come refl refl refl c.started-self-inside.result c.newest_time.result c.newest_time.ensures told.rest told.by_plan told.by_own_step told.by_the_step_made,
      read_begun l.plan l.part l.names l.own l.writes l.reads l.clock l.passages l.inputs.items l.times.items l.queue is.0 is.2 is.5 out
          _ c.args.inputs.now come refl refl refl c.started-self-inside.result c.newest_time.result c.newest_time.ensures told.rest told.by_plan told.by_own_step told.by_the_step_made
          c.args.kept.items made c.parts-parts.ensures.valid,
      is.4,
      subst (λ (all : List EventKind). Stands l.plan l.part l.own c.started-self-inside.result l.passages c.args.kept.items [] all) (sym through) tt,
      stands_begun l.plan l.part l.names l.own l.writes l.reads l.clock l.passages l.inputs.items l.times.items l.queue is.0 is.2 is.5 out
          _ c.args.inputs.now come refl refl refl c.started-self-inside.result c.newest_time.result c.newest_time.ensures told.rest told.by_plan told.by_own_step told.by_the_step_made
          c.args.kept.items made,
      is.7,
    )

pub returns : goal.returns
returns c =
    let l = c.self.inside in
    let is = c.self.invariant in
    let told = c.started-self-inside.ensures in
    let out = ap (λ (m : Member). m.course.out) c.self.view_is ∙ c.requires.out in
    let come = subst (λ (m : Member). AreInputs m.plan m.part m.course c.args.inputs.now) (sym c.self.view_is) c.requires.inputs in
    let started = started_is l.plan l.part l.names l.own l.writes l.reads l.clock l.passages l.inputs.items l.times.items l.queue is.0 is.2 is.5 out
    _ c.args.inputs.now come refl refl refl c.started-self-inside.result c.newest_time.result c.newest_time.ensures told.rest told.by_plan told.by_own_step told.by_the_step_made in
    rw (c.forget_samples.ensures, c.clear.ensures.items, c.answered.ensures, buffers_stay l.writes, started)
    (ap (λ (m : Member). record m { course = turn_begun m.plan m.part (newest_input_time c.args.inputs.now) (Ok (map input_kept c.args.kept.items)) (record m.course { out = None; sources = c.args.sources.items }) }) c.self.view_is)
