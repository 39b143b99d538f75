use Rattle.std.proofs.Common.{Some, arith, ap, sym, ◌∙◌}
use Rattle.group_course.proofs.Leads.{later, alike, more}
use Rattle.group_course.proofs.leading.led_by.Goals as goal

pub push_sample-requires-clause-later : goal.push_sample-requires-clause-later
push_sample-requires-clause-later c =
    later c.args.time c.args.field.now c.args.rest.now c.loop-i.wave c.loop-i.i c.len-i-end.ensures.wave (omega (arith, c.loop-i-test.true, c.len-i-end.ensures.count)) c.loop-i.invariant
    c.requires.later c.time.result c.time.ensures

pub push_sample-requires-clause-alike : goal.push_sample-requires-clause-alike
push_sample-requires-clause-alike c =
    alike c.args.time c.args.field.now c.args.rest.now c.loop-i.wave c.loop-i.i c.len-i-end.ensures.wave (omega (arith, c.loop-i-test.true, c.len-i-end.ensures.count)) c.loop-i.invariant
    c.requires.alike c.in_ok-copy.field-0 (c.field.ensures ∙ ap Some (sym c.in_ok-copy.ensures))

pub loop-i-preserved : goal.loop-i-preserved
loop-i-preserved c =
    more c.args.time c.args.field.now c.args.rest.now c.loop-i.wave c.loop-i.i c.len-i-end.ensures.wave (omega (arith, c.loop-i-test.true, c.len-i-end.ensures.count)) c.loop-i.invariant
    c.push_sample.new.wave c.time.result c.in_ok-copy.field-0 c.time.ensures (c.field.ensures ∙ ap Some (sym c.in_ok-copy.ensures)) c.in_ok-push_sample.ensures
