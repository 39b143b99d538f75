use Rattle.std.proofs.Common.{◌≡◌, ◌<◌, ◌++◌, Vec, Global, Some, ℤ, length, map, get_or, slice_get, refl, sym, ap, ◌∙◌, arith, option_map}
use Rattle.std.proofs.lemmas.Option.{slice_get_read, slice_get-get_or, slice_get-map}
use Rattle.watch_log.proofs.Participants.{one_more}
use Rattle.watch_log.specs.ReportText.{participant_line, participants_text}
use Rattle.watch_log.proofs.report.push_participants.Goals as goal

pub loop-p-preserved : goal.loop-p-preserved
loop-p-preserved c =
    let below : c.loop-p.p < length c.args.plan.now.parts = omega (arith, c.loop-p-test.true, c.part_count-p-end.ensures) in
    let added : c.push_participant_line.new.text.items ≡ c.loop-p.text.items ++ participant_line c.args.plan.now c.loop-p.p (get_or c.args.steps.now c.loop-p.p 0) c.as_slice.result.now =
    c.in_ok-push_participant_line.ensures in
    let steps : slice_get c.args.steps.now c.loop-p.p ≡ Some (get_or c.args.steps.now c.loop-p.p 0) =
    slice_get-get_or c.args.steps.now c.loop-p.p 0 (omega (arith, below, c.requires.steps)) in
    let state = slice_get_read c.args.states.now (length c.args.states.now) c.loop-p.p c.index-states-p.result refl (omega (arith, below, c.requires.states)) c.index-states-p.is in
    let items : slice_get (map (λ (one : Vec ℤ Global). one.items) c.args.states.now) c.loop-p.p ≡ Some c.as_slice.result.now =
    slice_get-map (λ (one : Vec ℤ Global). one.items) c.args.states.now c.loop-p.p ∙ ap (λ o. option_map (λ (one : Vec ℤ Global). one.items) o) state ∙ ap Some (sym c.as_slice.ensures.value) in
    one_more c.args.plan.now c.loop-p.p c.args.steps.now (map (λ (one : Vec ℤ Global). one.items) c.args.states.now) (get_or c.args.steps.now c.loop-p.p 0) c.as_slice.result.now
    c.loop-p.text.items c.push_participant_line.new.text.items
    (c.args.text.now.items ++ participants_text c.args.plan.now 0 c.args.steps.now (map (λ (one : Vec ℤ Global). one.items) c.args.states.now))
    steps items added c.loop-p.invariant
