use Rattle.std.proofs.Common.{◌∙◌}
use Rattle.std.specs.Prelude.{slice_get}
use Rattle.cpl_plan.proofs.Readings.{there}
use Rattle.group_course.specs.JudgementOf.{judgement_by}
use Rattle.group_course.proofs.Faults.{judged_is}
use Rattle.group_course.proofs.course.Course.judge.Goals as goal

pub returns-clause-judged : goal.returns-clause-judged
returns-clause-judged c = λ look tells.
    let at = c.args.at in
    let plan = c.args.plan.now in
    let s = there plan.schemes at.scheme c.requires.scheme in
    judged_is plan look at.scheme at.window at.start at.number s.0 (slice_get plan.schemes at.scheme) c.verdict-verdict.result (judgement_by c.in_ok-fault.fault c.verdict-verdict.result) s.1
    (c.verdict-verdict.ensures look s.0 tells s.1) (c.in_ok-fault.ensures.judged look s.0 tells s.1)

pub returns-clause-repeats : goal.returns-clause-repeats
returns-clause-repeats c = λ look scheme tells is again.
    c.in_ok-fault.ensures.repeats look scheme tells is (c.as_slice.ensures.value ∙ (c.in_ok-norms.ensures look scheme tells is).0) again
