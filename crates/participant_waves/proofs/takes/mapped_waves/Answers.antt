use Rattle.std.proofs.Common.{◌≡◌, ◌<◌, ℕ, List, length, get_or, zip, arith, ap, sym, subst, ◌∙◌}
use Rattle.std.proofs.Math.ListN.{set}
use Rattle.std.proofs.lemmas.List.{set-get_or}
use Rattle.std.proofs.lemmas.Slice.Zip.{get_or-zip}
use Rattle.core_sides.specs.declared.event.Input.{Input}
use Rattle.wave_values.proofs.Lists.{length_zipped}
use Rattle.participant_waves.specs.TakingKept.{TakingKept}
use Rattle.participant_waves.specs.TakenWaves.{wave_taken}
use Rattle.participant_waves.specs.Refusals.{IsNoTake}
use Rattle.participant_waves.proofs.Made.{more, whole}
use Rattle.participant_waves.proofs.PostRefused.{not_taken}
use Rattle.participant_waves.proofs.takes.mapped_waves.Goals as goal

-- an exchange beside its input
at_both : (ts now : List TakingKept) (inputs : List Input) (i : ℕ) (t : TakingKept) (input : Input) → now ≡ ts → length inputs ≡ length ts → i < length inputs
    → t ≡ get_or now i t → input ≡ get_or inputs i input → (t, input) ≡ get_or (zip ts inputs) i (t, input)
at_both ts now inputs i t input same many within one other =
    let here : t ≡ get_or ts i t = one ∙ ap (λ (us : List TakingKept). get_or us i t) same in
    let both : (t, input) ≡ (get_or ts i t, get_or inputs i input) = λ k. (here k, other k) in
    both ∙ sym (get_or-zip ts inputs i (t, input) (omega (arith, many, within)) within)

both_long : (ts : List TakingKept) (inputs : List Input) → length inputs ≡ length ts → length (zip ts inputs) ≡ length inputs
both_long ts inputs many = length_zipped ts inputs many ∙ sym many

pub loop-i-preserved : goal.loop-i-preserved
loop-i-preserved c =
    let inside : c.loop-i.i < length (zip c.args.takings.now c.args.inputs.now) = omega (arith, c.loop-i-test.true, both_long c.args.takings.now c.args.inputs.now c.requires.many) in
    let at = at_both c.args.takings.now c.loop-i.takings c.args.inputs.now c.loop-i.i c.index-takings-i.result c.index-inputs-i.result c.loop-i.invariant.same c.requires.many c.loop-i-test.true
    c.index-takings-i.is c.index-inputs-i.is in
    record {
      same = ap (λ (t : TakingKept). set c.loop-i.takings c.loop-i.i t) c.in-Ok.ensures.unchanged ∙ set-get_or c.loop-i.takings c.loop-i.i c.index-takings-i.result ∙ c.loop-i.invariant.same;
      waves = rw c.in_ok-push-in-Ok.ensures.items
          (more (wave_taken c.args.part c.args.window c.args.iteration) (zip c.args.takings.now c.args.inputs.now) c.loop-i.waves.items c.loop-i.i
          (c.index-takings-i.result, c.index-inputs-i.result) c.in-Ok.wave inside at
          (ap (λ (t : TakingKept). wave_taken c.args.part c.args.window c.args.iteration (t, c.index-inputs-i.result)) c.index-takings-i.is ∙ c.in-Ok.ensures.taken)
          c.loop-i.invariant.waves);
    }

pub returns-in-Err-clause-refused : goal.returns-in-Err-clause-refused
returns-in-Err-clause-refused c =
    let inside : c.loop-i.i < length (zip c.args.takings.now c.args.inputs.now) = omega (arith, c.loop-i-test.true, both_long c.args.takings.now c.args.inputs.now c.requires.many) in
    let at = at_both c.args.takings.now c.loop-i.takings c.args.inputs.now c.loop-i.i c.index-takings-i.result c.index-inputs-i.result c.loop-i.invariant.same c.requires.many c.loop-i-test.true
    c.index-takings-i.is c.index-inputs-i.is in
    not_taken (wave_taken c.args.part c.args.window c.args.iteration) (zip c.args.takings.now c.args.inputs.now) c.loop-i.waves.items c.loop-i.i
    (c.index-takings-i.result, c.index-inputs-i.result) inside at c.loop-i.invariant.waves c.in-Err.why
    (subst (λ (t : TakingKept). IsNoTake (wave_taken c.args.part c.args.window c.args.iteration (t, c.index-inputs-i.result)) c.in-Err.why) (sym c.index-takings-i.is) c.in-Err.ensures.refused)

pub returns-in-Err-clause-unchanged : goal.returns-in-Err-clause-unchanged
returns-in-Err-clause-unchanged c =
    ap (λ (t : TakingKept). set c.loop-i.takings c.loop-i.i t) c.in-Err.ensures.unchanged ∙ set-get_or c.loop-i.takings c.loop-i.i c.index-takings-i.result ∙ c.loop-i.invariant.same

pub returns-clause-mapped : goal.returns-clause-mapped
returns-clause-mapped c =
    whole (wave_taken c.args.part c.args.window c.args.iteration) (zip c.args.takings.now c.args.inputs.now) c.loop-i.waves.items c.loop-i.i
    (omega (arith, c.loop-i-test.false, both_long c.args.takings.now c.args.inputs.now c.requires.many)) c.loop-i.invariant.waves
