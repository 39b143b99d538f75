use Rattle.std.proofs.Common.{◌≡◌, ◌+◌, ◌-◌, ◌^◌, min, [], ◌∷◌, ◌++◌, map, Some, is_some, refl, ap, sym, ◌∙◌}
use Rattle.std.specs.Option.{option_copied}
use Rattle.coupled_loop.specs.PlanFrames.{group_of}
use Rattle.participant_tables.specs.WriteSteps.{cleared}
use Rattle.participant_words.specs.AfterDeed.{stepped, window_ended}
use Rattle.participant_words.specs.KnownByReply.{known_by}
use Rattle.participant_words.specs.declared.phase.Phase.TheVariants.{Pending}
use Rattle.participant_state.specs.Kept.{asked_of, written_in}
use Rattle.participant_state.specs.Member.{Member}
use Rattle.participant_tables.specs.WriteSteps.{sampled}
use Rattle.participant_state.proofs.StepKept.{after_step, clock_after, takes_samples}
use Rattle.participant_state.proofs.StepMeans.{Unchanged, course_of, end_means}
use Rattle.participant_state.proofs.StepPosts.{posts_are, posts_can_be_sent, posts_written}
use Rattle.participant_state.proofs.StepRefused.{nothing_waits}
use Rattle.participant_state.proofs.StepStands.{can_step, end_stands, stand_by}
use Rattle.participant_state.proofs.local.Local.end_window.Goals as goal

pub take_samples-requires : goal.take_samples-requires
take_samples-requires c =
    let l = c.self.inside in
    let m : Member = c.args.self.now in
    let can = can_step l.plan l.part l.names l.own l.received l.passages l.reads l.inputs.items l.rows.items l.writes l.times.items l.clock l.queue l.phase c.args.dt c.self.invariant
    m c.requires.granted (ap (λ (m : Member). m.course.phase) (sym c.self.view_is)) (ap (λ (m : Member). m.course.turn.now) (sym c.self.view_is)) (ap (λ (m : Member). m.course.turn.latest) (sym c.self.view_is)) in
    takes_samples l.plan l.part l.clock l.times.items c.args.dt can.within c.self.invariant.2 l.own l.writes c.self.invariant.1 can.some can.room

pub turn_post-requires : goal.turn_post-requires
turn_post-requires c =
    let l = c.self.inside in
    let m : Member = c.args.self.now in
    let can = can_step l.plan l.part l.names l.own l.received l.passages l.reads l.inputs.items l.rows.items l.writes l.times.items l.clock l.queue l.phase c.args.dt c.self.invariant
    m c.requires.granted (ap (λ (m : Member). m.course.phase) (sym c.self.view_is)) (ap (λ (m : Member). m.course.turn.now) (sym c.self.view_is)) (ap (λ (m : Member). m.course.turn.latest) (sym c.self.view_is)) in
    let joined : l.passages ≡ Some c.unwrap-passages.result.now = sym c.as_ref.ensures.value ∙ ap option_copied c.unwrap-passages.ensures in
    posts_can_be_sent l.plan l.part l.names l.own l.received l.passages l.reads l.inputs.items l.rows.items l.writes l.times.items l.clock l.queue l.phase c.args.dt c.self.invariant
    can c.parts-parts.ensures.valid c.unwrap-passages.result.now joined c.take_samples.new.writes c.in_ok-take_samples.ensures.sampled c.len-entries.ensures.shapes

pub invariant_of-self-in-Err : goal.invariant_of-self-in-Err
invariant_of-self-in-Err c =
    let l = c.self.inside in
    stand_by l.plan l.part l.names l.own l.received l.passages l.reads l.inputs.items l.rows.items
    l.writes c.untake_samples.new.writes l.times.items c.untake_samples.new.times.items l.clock l.clock l.queue l.phase
    (c.untake_samples.ensures.unsampled (l.clock.now + c.args.dt) l.writes c.in_ok-take_samples.ensures.sampled)
    (c.untake_samples.ensures.forgotten (l.clock.now + c.args.dt) l.times.items c.in_ok-take_samples.ensures.noted) refl
    c.self.invariant

pub returns-in-Err-clause-unchanged : goal.returns-in-Err-clause-unchanged
returns-in-Err-clause-unchanged c =
    let l = c.self.inside in
    let u : Unchanged = record { own = l.own; received = l.received; asked = asked_of l.asked; sources = l.sources.items; rows = l.rows.items } in
    let writes = c.untake_samples.ensures.unsampled (l.clock.now + c.args.dt) l.writes c.in_ok-take_samples.ensures.sampled in
    let times = c.untake_samples.ensures.forgotten (l.clock.now + c.args.dt) l.times.items c.in_ok-take_samples.ensures.noted in
    (λ i. record { plan = l.plan; part = l.part; course = course_of u l.inputs.items l.phase l.queue l.overflow l.clock (times i) (writes i) l.steps }) ∙ c.self.view_is

pub queue_post-requires : goal.queue_post-requires
queue_post-requires c =
    let l = c.self.inside in
    let m : Member = c.args.self.now in
    let can = can_step l.plan l.part l.names l.own l.received l.passages l.reads l.inputs.items l.rows.items l.writes l.times.items l.clock l.queue l.phase c.args.dt c.self.invariant
    m c.requires.granted (ap (λ (m : Member). m.course.phase) (sym c.self.view_is)) (ap (λ (m : Member). m.course.turn.now) (sym c.self.view_is)) (ap (λ (m : Member). m.course.turn.latest) (sym c.self.view_is)) in
    (nothing_waits l.queue can.none).0

pub invariant_of-self-2 : goal.invariant_of-self-2
invariant_of-self-2 c =
    let l = c.self.inside in
    let m : Member = c.args.self.now in
    let can = can_step l.plan l.part l.names l.own l.received l.passages l.reads l.inputs.items l.rows.items l.writes l.times.items l.clock l.queue l.phase c.args.dt c.self.invariant
    m c.requires.granted (ap (λ (m : Member). m.course.phase) (sym c.self.view_is)) (ap (λ (m : Member). m.course.turn.now) (sym c.self.view_is)) (ap (λ (m : Member). m.course.turn.latest) (sym c.self.view_is)) in
    let writes : c.clear.new.self ≡ after_step (l.clock.now + c.args.dt) l.writes = c.clear.ensures ∙ ap (map cleared) c.in_ok-take_samples.ensures.sampled in
    let judged : c.is_implicit-judged.result ≡ is_some (group_of l.plan l.part) = c.is_implicit-judged.ensures ∙ ap (λ (m : Member). is_some (group_of m.plan m.part)) (sym c.self.view_is) in
    stand_by l.plan l.part l.names l.own l.received l.passages l.reads l.inputs.items l.rows.items
    (after_step (l.clock.now + c.args.dt) l.writes) c.clear.new.self
    (l.times.items ++ (l.clock.now + c.args.dt) ∷ []) c.take_samples.new.times.items
    (clock_after c.args.dt l.clock) c.stepped-self-inside.result c.queue_post.new.queue Pending
    writes c.in_ok-take_samples.ensures.noted c.stepped-self-inside.ensures
    (end_stands l.plan l.part l.names l.own l.received l.passages l.reads l.inputs.items l.rows.items l.writes l.times.items l.clock l.queue l.phase c.args.dt c.self.invariant can
    c.in-Ok.post c.queue_post.new.queue c.is_implicit-judged.result c.queue_post.ensures.out judged c.queue_post.ensures.waiting)

pub returns-clause-done : goal.returns-clause-done
returns-clause-done c =
    let l = c.self.inside in
    let m : Member = c.args.self.now in
    let can = can_step l.plan l.part l.names l.own l.received l.passages l.reads l.inputs.items l.rows.items l.writes l.times.items l.clock l.queue l.phase c.args.dt c.self.invariant
    m c.requires.granted (ap (λ (m : Member). m.course.phase) (sym c.self.view_is)) (ap (λ (m : Member). m.course.turn.now) (sym c.self.view_is)) (ap (λ (m : Member). m.course.turn.latest) (sym c.self.view_is)) in
    let joined : l.passages ≡ Some c.unwrap-passages.result.now = sym c.as_ref.ensures.value ∙ ap option_copied c.unwrap-passages.ensures in
    let u : Unchanged = record { own = l.own; received = l.received; asked = asked_of l.asked; sources = l.sources.items; rows = l.rows.items } in
    let writes : c.clear.new.self ≡ after_step (l.clock.now + c.args.dt) l.writes = c.clear.ensures ∙ ap (map cleared) c.in_ok-take_samples.ensures.sampled in
    let judged : c.is_implicit-judged.result ≡ is_some (group_of l.plan l.part) = c.is_implicit-judged.ensures ∙ ap (λ (m : Member). is_some (group_of m.plan m.part)) (sym c.self.view_is) in
    let steps : c.saturating_add-self-inside.result ≡ min (l.steps + 1) (2 ^ 64 - 1) = c.saturating_add-self-inside.ensures in
    let sends = posts_are l.plan l.part l.names l.own l.received l.passages l.reads l.inputs.items l.rows.items l.writes l.times.items l.clock l.queue l.phase c.args.dt c.self.invariant
    can c.parts-parts.ensures.valid c.unwrap-passages.result.now joined c.take_samples.new.writes c.in_ok-take_samples.ensures.sampled c.len-entries.ensures.shapes in
    let written = posts_written l.plan l.part l.names l.own l.received l.passages l.reads l.inputs.items l.rows.items l.writes l.times.items l.clock l.queue l.phase c.args.dt c.self.invariant
    can c.parts-parts.ensures.valid c.unwrap-passages.result.now joined c.take_samples.new.writes c.in_ok-take_samples.ensures.sampled c.len-entries.ensures.shapes in
    let means = end_means u l.inputs.items l.plan l.part l.phase l.queue l.overflow l.clock l.times.items l.writes l.steps c.args.dt c.self.invariant.1.samples
    c.stepped-self-inside.result c.take_samples.new.times.items c.clear.new.self c.saturating_add-self-inside.result
    c.stepped-self-inside.ensures c.in_ok-take_samples.ensures.noted writes steps
    c.in-Ok.post c.queue_post.new.queue c.queue_post.new.overflow c.is_implicit-judged.result c.queue_post.ensures.out judged c.queue_post.ensures.waiting c.queue_post.ensures.overflow
    (c.in-Ok.ensures l.plan l.part (known_by l.plan l.part l.own l.received)
    (written_in l.clock.window l.clock.iteration (l.times.items ++ (l.clock.now + c.args.dt) ∷ []) (map (sampled (l.clock.now + c.args.dt)) l.writes)) sends written) in
    (λ i. record { plan = l.plan; part = l.part; course = means i })
    ∙ ap (λ (m : Member). let done : Member = record m { course = window_ended m.plan m.part (stepped m.plan m.part c.args.dt m.course) } in done) c.self.view_is
