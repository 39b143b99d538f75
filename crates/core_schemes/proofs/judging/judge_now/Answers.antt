use Rattle.std.proofs.Common.{refl}
use Rattle.std.proofs.lemmas.Option.{slice_get_within}
use Rattle.coupled_loop.specs.CoreState.{look_in}
use Rattle.group_course.specs.JudgementOf.{judgement_of}
use Rattle.core_schemes.proofs.JudgedNow.{can_be_judged, judged_of_start, last_judged_now}
use Rattle.core_schemes.proofs.Ready.{all_tells, scheme_there, stands_at}
use Rattle.core_schemes.proofs.judging.judge_now.Goals as goal

pub judge-requires-clause-scheme : goal.judge-requires-clause-scheme
judge-requires-clause-scheme c =
    let can = c.requires.ready in
    let scheme = scheme_there c.args.plan.now c.parts-valid.ensures.valid c.args.stores.now c.args.state.now c.args.at can.sides can.may in
    slice_get_within c.args.plan.now.schemes c.args.at.scheme scheme.0 scheme.1

pub judge-requires-clause-first : goal.judge-requires-clause-first
judge-requires-clause-first c =
    let can = c.requires.ready in (stands_at c.args.plan.now c.parts-valid.ensures.valid c.args.stores.now c.args.state.now c.args.at can.sides can.may).2.iteration

pub judge-requires-clause-ready : goal.judge-requires-clause-ready
judge-requires-clause-ready c = can_be_judged c.args.plan.now c.parts-valid.ensures.valid c.args.stores.now c.args.state.now c.args.at c.requires.ready c.requires.new

pub returns-clause-judgement : goal.returns-clause-judgement
returns-clause-judgement c = λ sides may.
    judged_of_start c.args.plan.now c.parts-valid.ensures.valid c.args.stores.now c.args.state.now c.args.at sides may (judgement_of c.in_ok-judged.judged)
    (c.in_ok-judged.ensures.judged (look_in sides)
    (all_tells c.args.plan.now c.parts-valid.ensures.valid c.args.stores.now c.args.state.now c.args.at sides may c.requires.new))

pub returns-clause-stands : goal.returns-clause-stands
returns-clause-stands c = λ sides scheme may there.
    let tells = all_tells c.args.plan.now c.parts-valid.ensures.valid c.args.stores.now c.args.state.now c.args.at sides may c.requires.new in
    last_judged_now c.args.plan.now c.parts-valid.ensures.valid c.args.stores.now c.args.state.now c.args.at sides may c.requires.new scheme there
    c.in_ok-judged.judged.verdict c.in_ok-judged.judged.fault c.judge.new.self _ refl (c.in_ok-judged.ensures.judged (look_in sides) tells)
    (c.in_ok-judged.ensures.verdict (look_in sides) scheme tells there) (λ repeated. c.in_ok-judged.ensures.repeats (look_in sides) scheme tells there repeated) _ refl

pub returns-clause-verdict : goal.returns-clause-verdict
returns-clause-verdict c = λ sides scheme may there.
    c.in_ok-judged.ensures.verdict (look_in sides) scheme
    (all_tells c.args.plan.now c.parts-valid.ensures.valid c.args.stores.now c.args.state.now c.args.at sides may c.requires.new) there

pub returns-clause-norms : goal.returns-clause-norms
returns-clause-norms c = λ sides scheme may there.
    c.in_ok-judged.ensures.norms (look_in sides) scheme
    (all_tells c.args.plan.now c.parts-valid.ensures.valid c.args.stores.now c.args.state.now c.args.at sides may c.requires.new) there
