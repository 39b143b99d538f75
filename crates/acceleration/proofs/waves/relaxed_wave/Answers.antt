use Rattle.std.proofs.Common.{rules, ℤ, ◌≡◌, ◌<◌, ◌++◌, ◌∷◌, [], List, length, get_or, arith, refl, ap, ◌∙◌}
use Rattle.std.proofs.lemmas.Result.{err_from_is_err_and}
use Rattle.std.proofs.lemmas.List.{with_items_is}
use Rattle.acceleration.specs.Exchanged.{exchange_of}
use Rattle.acceleration.specs.RelaxedWaves.{relaxed_wave}
use Rattle.acceleration.specs.Outside.{first_outside, located_sample, located_wave}
use Rattle.acceleration.proofs.Locations.{first_outside-nil}
use Rattle.acceleration.proofs.Widths.{no_sample}
use Rattle.acceleration.proofs.Fronts.{IsFront-next, outside_at, sample_found, later}
use Rattle.acceleration.proofs.Causes.{tells_on}
use Rattle.acceleration.proofs.waves.relaxed_wave.Goals as goal

pub returns-in_err-first-clause-outside : goal.returns-in_err-first-clause-outside
returns-in_err-first-clause-outside c =
    let e = exchange_of c.args.step.now.degree c.args.read.now c.args.posted.now in
    let f = c.args.step.now.factor in
    let place = c.args.step.now.place in
    let s = get_or (relaxed_wave f e) 0 no_sample in
    let inside : 0 < length c.args.posted.now = omega (arith, c.len-count.ensures.wave.least) in
    let found = sample_found f e 0 inside in
    let p = err_from_is_err_and c.from_residual-in_err-first.result c.from_residual-in_err-first.ensures.1 in
    rw (p.1, p.2) (
    tells_on (first_outside (located_sample place s)) (first_outside (located_wave place (relaxed_wave f e))) c.in_err-first.field-0.0
    (λ location first. outside_at f place 0 e s [] location inside found refl first_outside-nil first)
    (c.in_err-first.ensures.outside s found)
    )

pub returns-in_err-sample-clause-outside : goal.returns-in_err-sample-clause-outside
returns-in_err-sample-clause-outside c =
    let e = exchange_of c.args.step.now.degree c.args.read.now c.args.posted.now in
    let f = c.args.step.now.factor in
    let place = c.args.step.now.place in
    let s = get_or (relaxed_wave f e) c.loop-i.i no_sample in
    let inside : c.loop-i.i < length c.args.posted.now = omega (arith, c.loop-i-test.true, c.len-count.ensures.count) in
    let found = sample_found f e c.loop-i.i inside in
    let front = c.loop-i.invariant.1 in
    let p = err_from_is_err_and c.from_residual-in_err-sample.result c.from_residual-in_err-sample.ensures.1 in
    rw (p.1, p.2) (
    tells_on (first_outside (located_sample place s)) (first_outside (located_wave place (relaxed_wave f e))) c.in_err-sample.field-0.0
    (λ location first. outside_at f place c.loop-i.i e s c.loop-i.wave location inside found front.made front.inside first)
    (c.in_err-sample.ensures.outside s found)
    )

pub push_sample-requires-clause-later : goal.push_sample-requires-clause-later
push_sample-requires-clause-later c =
    later c.args.step.now.factor c.args.step.now.place c.loop-i.i (exchange_of c.args.step.now.degree c.args.read.now c.args.posted.now) c.in_ok-sample.sample c.loop-i.wave
    c.len-count.ensures.wave (omega (arith, c.loop-i.auto.i)) (omega (arith, c.loop-i-test.true, c.len-count.ensures.count)) c.in_ok-sample.ensures.sample c.loop-i.invariant.1

pub loop-i-preserved : goal.loop-i-preserved
loop-i-preserved c =
    let pushed : c.push_sample.new.wave ≡ c.loop-i.wave ++ c.in_ok-sample.sample ∷ [] = search rules in
    let as_long : length c.relaxed_sample-in-loop-i.new.room ≡ c.loop-i.room.len = search rules in (
      ap (λ (xs : List ℤ). length xs) (with_items_is c.loop-i.room c.relaxed_sample-in-loop-i.new.room as_long) ∙ as_long ∙ (search rules),
      IsFront-next c.args.step.now.factor c.args.step.now.place c.loop-i.i (exchange_of c.args.step.now.degree c.args.read.now c.args.posted.now) c.in_ok-sample.sample c.loop-i.wave c.push_sample.new.wave
          (omega (arith, c.loop-i-test.true, c.len-count.ensures.count)) c.in_ok-sample.ensures.sample c.in_ok-sample.ensures.alike c.in_ok-sample.ensures.inside pushed c.loop-i.invariant.1,
    )
