use Rattle.std.proofs.Common.{◌≡◌, ◌+◌, ◌-◌, ◌<◌, ◌^◌, min, [], ◌∷◌, ◌++◌, length, map, ap, sym, ◌∙◌, arith}
use Rattle.participant_tables.specs.WriteSteps.{cleared}
use Rattle.participant_words.specs.AfterDeed.{stepped}
use Rattle.participant_state.specs.Kept.{asked_of}
use Rattle.participant_state.specs.Member.{Member}
use Rattle.participant_state.proofs.StepKept.{after_step, clock_after, takes_samples}
use Rattle.participant_state.proofs.StepMeans.{Unchanged, step_means}
use Rattle.participant_state.proofs.StepRefused.{granted_more}
use Rattle.participant_state.proofs.StepStands.{can_step, stand_by, step_stands}
use Rattle.participant_state.proofs.TablesMean.{steps_written}
use Rattle.participant_state.proofs.local.Local.end_step.Goals as goal

pub take_samples-requires : goal.take_samples-requires
take_samples-requires c =
    let l = c.self.inside in
    let m : Member = c.args.self.now in
    let can = can_step l.plan l.part l.names l.own l.received l.passages l.reads l.inputs.items l.rows.items l.writes l.times.items l.clock l.queue l.phase c.args.dt c.self.invariant
    m c.requires.granted (ap (λ (m : Member). m.course.phase) (sym c.self.view_is)) (ap (λ (m : Member). m.course.turn.now) (sym c.self.view_is)) (ap (λ (m : Member). m.course.turn.latest) (sym c.self.view_is)) in
    takes_samples l.plan l.part l.clock l.times.items c.args.dt can.within c.self.invariant.2 l.own l.writes c.self.invariant.1 can.some can.room

pub invariant_of-self-2 : goal.invariant_of-self-2
invariant_of-self-2 c =
    let l = c.self.inside in
    let m : Member = c.args.self.now in
    let can = can_step l.plan l.part l.names l.own l.received l.passages l.reads l.inputs.items l.rows.items l.writes l.times.items l.clock l.queue l.phase c.args.dt c.self.invariant
    m c.requires.granted (ap (λ (m : Member). m.course.phase) (sym c.self.view_is)) (ap (λ (m : Member). m.course.turn.now) (sym c.self.view_is)) (ap (λ (m : Member). m.course.turn.latest) (sym c.self.view_is)) in
    let count : length m.course.turn.written ≡ length l.times.items =
    ap (λ (m : Member). length m.course.turn.written) (sym c.self.view_is) ∙ steps_written l.clock.window l.clock.iteration l.times.items l.writes in
    let more : length l.times.items + 1 < 1024 =
    omega (arith, granted_more m.plan m.part m.course c.args.dt c.requires.granted c.requires.within (omega (arith, count, can.room)), count) in
    let writes : c.clear.new.self ≡ after_step (l.clock.now + c.args.dt) l.writes = c.clear.ensures ∙ ap (map cleared) c.in_ok-take_samples.ensures.sampled in
    stand_by l.plan l.part l.names l.own l.received l.passages l.reads l.inputs.items l.rows.items
    (after_step (l.clock.now + c.args.dt) l.writes) c.clear.new.self
    (l.times.items ++ (l.clock.now + c.args.dt) ∷ []) c.take_samples.new.times.items
    (clock_after c.args.dt l.clock) c.stepped-self-inside.result l.queue l.phase
    writes c.in_ok-take_samples.ensures.noted c.stepped-self-inside.ensures
    (step_stands l.plan l.part l.names l.own l.received l.passages l.reads l.inputs.items l.rows.items l.writes l.times.items l.clock l.queue l.phase c.args.dt c.self.invariant can more)

pub returns-clause-done : goal.returns-clause-done
returns-clause-done c =
    let l = c.self.inside in
    let u : Unchanged = record { own = l.own; received = l.received; asked = asked_of l.asked; sources = l.sources.items; rows = l.rows.items } in
    let writes : c.clear.new.self ≡ after_step (l.clock.now + c.args.dt) l.writes = c.clear.ensures ∙ ap (map cleared) c.in_ok-take_samples.ensures.sampled in
    let steps : c.saturating_add-self-inside.result ≡ min (l.steps + 1) (2 ^ 64 - 1) = c.saturating_add-self-inside.ensures in
    let means = step_means u l.inputs.items l.plan l.part l.phase l.queue l.overflow l.clock l.times.items l.writes l.steps c.args.dt c.self.invariant.1.samples
    c.stepped-self-inside.result c.take_samples.new.times.items c.clear.new.self c.saturating_add-self-inside.result
    c.stepped-self-inside.ensures c.in_ok-take_samples.ensures.noted writes steps in
    (λ i. record { plan = l.plan; part = l.part; course = means i })
    ∙ ap (λ (m : Member). let done : Member = record m { course = stepped m.plan m.part c.args.dt m.course } in done) c.self.view_is
