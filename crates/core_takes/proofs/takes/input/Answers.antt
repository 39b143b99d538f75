use Rattle.std.proofs.Common.{◌-◌, ◌≤◌, subst, arith}
use Rattle.cpl_plan.specs.declared.parts.Kind.{Kind}
use Rattle.group_course.specs.CourseKept.{CourseKept}
use Rattle.group_course.specs.CourseTells.{CourseTells}
use Rattle.core_takes.specs.Held.{HoldsSamples}
use Rattle.core_takes.proofs.ReadyFor.{reader_is, scheme_there, state_with, accepted_readable, posted_readable, repeatable}
use Rattle.core_takes.proofs.takes.input.Goals as goal

pub accepted_input-requires-clause-readable : goal.accepted_input-requires-clause-readable
accepted_input-requires-clause-readable c =
    let plan = c.args.plan.now in
    let turn = c.args.turn in
    let e = c.exchange-exchange.result.now in
    let store = c.store_of-store.result.now in
    let held = c.store_of-store.ensures.held in
    let tells = c.requires.ready.tells.posts c.args.x e store c.exchange-exchange.ensures
    (reader_is plan c.args.x turn.part e c.exchange-exchange.ensures c.requires.received) c.store_of-store.ensures.there in
    accepted_readable plan c.args.stores.now c.args.schemes.now turn c.requires.ready c.args.x e store c.exchange-exchange.ensures tells held.before
    (subst (λ (kind : Kind). HoldsSamples kind store.progress turn.window turn.iteration) c.in-Fresh.is held.samples)

pub posted_input-requires-clause-readable : goal.posted_input-requires-clause-readable
posted_input-requires-clause-readable c =
    let plan = c.args.plan.now in
    let turn = c.args.turn in
    let e = c.exchange-exchange.result.now in
    let store = c.store_of-store.result.now in
    let held = c.store_of-store.ensures.held in
    let tells = c.requires.ready.tells.posts c.args.x e store c.exchange-exchange.ensures
    (reader_is plan c.args.x turn.part e c.exchange-exchange.ensures c.requires.received) c.store_of-store.ensures.there in
    posted_readable plan c.args.stores.now c.args.schemes.now turn c.requires.ready c.args.x e store c.exchange-exchange.ensures tells held.before
    (subst (λ (kind : Kind). HoldsSamples kind store.progress turn.window turn.iteration) c.in-FreshIter.is held.samples)

pub course_of-course-requires : goal.course_of-course-requires
course_of-course-requires c =
    omega (arith, scheme_there c.args.plan.now c.parts-valid.ensures.valid c.args.x c.exchange-exchange.result.now c.exchange-exchange.ensures, c.requires.ready.count)

pub scheme-requires : goal.scheme-requires
scheme-requires c = scheme_there c.args.plan.now c.parts-valid.ensures.valid c.args.x c.exchange-exchange.result.now c.exchange-exchange.ensures

pub repeated_input-requires-clause-readable : goal.repeated_input-requires-clause-readable
repeated_input-requires-clause-readable c =
    let plan = c.args.plan.now in
    let turn = c.args.turn in
    let e = c.exchange-exchange.result.now in
    let store = c.store_of-store.result.now in
    let held = c.store_of-store.ensures.held in
    let reader = reader_is plan c.args.x turn.part e c.exchange-exchange.ensures c.requires.received in
    let tells = c.requires.ready.tells.posts c.args.x e store c.exchange-exchange.ensures reader c.store_of-store.ensures.there in
    let more : 2 ≤ c.args.turn.iteration = omega arith in
    let scheme = c.scheme.result.now in
    let course = c.course_of-course.result.now in
    let state = state_with _ course c.course_of-course.ensures in
    repeatable plan c.args.stores.now c.args.schemes.now turn c.requires.ready c.args.x e store c.exchange-exchange.ensures tells held.before scheme course
    (subst (λ (kind : Kind). HoldsSamples kind store.progress turn.window turn.iteration) c.in-Iterated.is held.samples more)
    (subst (λ (kept : CourseKept). CourseTells plan c.requires.ready.look scheme turn.window turn.start (turn.iteration - 1) kept) state.2
    (c.requires.ready.tells.repeated c.args.x e scheme state.0 c.exchange-exchange.ensures reader c.in-Iterated.is more c.scheme.ensures state.1))
