use Rattle.std.proofs.Common.{rules, ◌≡◌, ◌<◌, ◌++◌, ◌∷◌, [], List, length, get_or, arith, refl, ap, sym, ◌∙◌}
use Rattle.std.proofs.lemmas.Result.{err_from_is_err_and}
use Rattle.std.proofs.lemmas.List.{take_all, length-map}
use Rattle.waveform.specs.declared.sample.Sample.{Sample}
use Rattle.acceleration.specs.Exchanged.{exchange_of, exchanged}
use Rattle.acceleration.specs.RelaxedWaves.{relaxed_wave, relaxed_waves}
use Rattle.acceleration.specs.Outside.{first_outside, located_wave, located}
use Rattle.acceleration.proofs.Locations.{first_outside-nil}
use Rattle.acceleration.proofs.Exchanges.{exchange_at, can_relax_at, length-exchanged}
use Rattle.acceleration.proofs.WaveLists.{AreFront-next, outside_in}
use Rattle.acceleration.proofs.Causes.{tells_on}
use Rattle.acceleration.proofs.waves.relaxed_waves.Goals as goal

pub loop-i-init : goal.loop-i-init
loop-i-init c =
    let none : c.in_ok-waves.waves.items ≡ [] = search rules in
    record { made = none; inside = ap (λ (ws : List (List Sample)). first_outside (located ws)) none ∙ first_outside-nil }

pub relaxed_wave-requires-clause-exchange : goal.relaxed_wave-requires-clause-exchange
relaxed_wave-requires-clause-exchange c =
    let all = exchanged c.args.degrees.now c.args.read.now c.args.posted.now in
    let i = c.loop-i.i in
    let inside : i < length all = omega (arith, length-exchanged c.args.degrees.now c.args.read.now c.args.posted.now c.requires.one_degree c.requires.one_read, c.loop-i-test.true) in
    let is = exchange_at c.args.degrees.now c.args.read.now c.args.posted.now i (get_or c.args.degrees.now i 0) c.index-read-i.result c.index-posted-i.result
    c.requires.one_degree c.requires.one_read c.loop-i-test.true refl c.index-read-i.is c.index-posted-i.is in
    can_relax_at all i (exchange_of (get_or c.args.degrees.now i 0) c.index-read-i.result c.index-posted-i.result) c.requires.exchanges inside is

pub returns-in_err-relaxed_wave-clause-outside : goal.returns-in_err-relaxed_wave-clause-outside
returns-in_err-relaxed_wave-clause-outside c =
    let all = exchanged c.args.degrees.now c.args.read.now c.args.posted.now in
    let i = c.loop-i.i in
    let e = exchange_of (get_or c.args.degrees.now i 0) c.index-read-i.result c.index-posted-i.result in
    let inside : i < length all = omega (arith, length-exchanged c.args.degrees.now c.args.read.now c.args.posted.now c.requires.one_degree c.requires.one_read, c.loop-i-test.true) in
    let is = exchange_at c.args.degrees.now c.args.read.now c.args.posted.now i (get_or c.args.degrees.now i 0) c.index-read-i.result c.index-posted-i.result
    c.requires.one_degree c.requires.one_read c.loop-i-test.true refl c.index-read-i.is c.index-posted-i.is in
    let p = err_from_is_err_and c.from_residual-in_err-relaxed_wave.result c.from_residual-in_err-relaxed_wave.ensures.1 in
    rw (p.1, p.2) (
    tells_on (first_outside (located_wave i (relaxed_wave c.args.factor e))) (first_outside (located (relaxed_waves c.args.factor all))) c.in_err-relaxed_wave.field-0.0
    (λ location first. outside_in c.args.factor i all e c.loop-i.waves.items location inside is c.loop-i.invariant first)
    c.in_err-relaxed_wave.ensures.outside
    )

pub loop-i-preserved : goal.loop-i-preserved
loop-i-preserved c =
    let all = exchanged c.args.degrees.now c.args.read.now c.args.posted.now in
    let i = c.loop-i.i in
    let e = exchange_of (get_or c.args.degrees.now i 0) c.index-read-i.result c.index-posted-i.result in
    let inside : i < length all = omega (arith, length-exchanged c.args.degrees.now c.args.read.now c.args.posted.now c.requires.one_degree c.requires.one_read, c.loop-i-test.true) in
    let is = exchange_at c.args.degrees.now c.args.read.now c.args.posted.now i (get_or c.args.degrees.now i 0) c.index-read-i.result c.index-posted-i.result
    c.requires.one_degree c.requires.one_read c.loop-i-test.true refl c.index-read-i.is c.index-posted-i.is in
    let pushed : c.push.new.self.items ≡ c.loop-i.waves.items ++ c.in_ok-relaxed_wave.field-0 ∷ [] = search rules in
    AreFront-next c.args.factor i all e c.loop-i.waves.items c.push.new.self.items inside is c.in_ok-relaxed_wave.ensures.inside
    (pushed ∙ ap (λ (w : List Sample). c.loop-i.waves.items ++ w ∷ []) c.in_ok-relaxed_wave.ensures.wave) c.loop-i.invariant

pub returns-clause-waves : goal.returns-clause-waves
returns-clause-waves c =
    let all = exchanged c.args.degrees.now c.args.read.now c.args.posted.now in
    let many = length-exchanged c.args.degrees.now c.args.read.now c.args.posted.now c.requires.one_degree c.requires.one_read in
    c.loop-i.invariant.made ∙ take_all c.loop-i.i (relaxed_waves c.args.factor all) (rw length-map (omega (arith, many, c.loop-i-test.false)))

pub returns-clause-inside : goal.returns-clause-inside
returns-clause-inside c =
    let all = exchanged c.args.degrees.now c.args.read.now c.args.posted.now in
    let many = length-exchanged c.args.degrees.now c.args.read.now c.args.posted.now c.requires.one_degree c.requires.one_read in
    let made = c.loop-i.invariant.made ∙ take_all c.loop-i.i (relaxed_waves c.args.factor all) (rw length-map (omega (arith, many, c.loop-i-test.false))) in
    ap (λ (ws : List (List Sample)). first_outside (located ws)) (sym made) ∙ c.loop-i.invariant.inside
