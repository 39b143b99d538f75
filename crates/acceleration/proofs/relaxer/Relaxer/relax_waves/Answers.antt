use Rattle.std.proofs.Common.{List, length, Ok, Err, ap, sym, refl, ◌∙◌}
use Rattle.std.proofs.lemmas.Result.{err_from_is_err_and}
use Rattle.std.proofs.lemmas.List.{length-map}
use Rattle.waveform.specs.declared.sample.Sample.{Sample}
use Rattle.acceleration.specs.Exchanged.{exchanged}
use Rattle.acceleration.specs.RelaxerState.{RelaxerState}
use Rattle.acceleration.specs.RelaxedWaves.{relaxed_wave, relaxed_waves}
use Rattle.acceleration.specs.Outside.{first_outside, located}
use Rattle.acceleration.specs.RelaxedIterate.{relaxed_iterate}
use Rattle.acceleration.proofs.Exchanges.{length-exchanged}
use Rattle.acceleration.proofs.Iterates.{iterate_defined, iterate_outside, names_location, names_none}
use Rattle.acceleration.proofs.relaxer.Relaxer.relax_waves.Goals as goal

pub returns-clause-iterate : goal.returns-clause-iterate
returns-clause-iterate c =
    let all = exchanged c.args.degrees.now c.args.read.now c.args.posted.now in
    ap (λ (s : RelaxerState). relaxed_iterate s all) (sym c.self.view_is)
    ∙ iterate_defined (record { method = c.self.inside.method; memory = c.self.inside.memory }) all c.in_ok-factor.factor c.in_ok-waves.waves.items c.in_ok-factor.memory
    c.in_ok-factor.ensures.factor c.in_ok-waves.ensures.waves c.in_ok-factor.ensures.memory c.in_ok-waves.ensures.inside

pub returns-clause-overflow : goal.returns-clause-overflow
returns-clause-overflow c =
    let all = exchanged c.args.degrees.now c.args.read.now c.args.posted.now in
    let next : RelaxerState = record { method = c.self.inside.method; memory = c.in_ok-factor.memory } in
    let defined = ap (λ (s : RelaxerState). relaxed_iterate s all) (sym c.self.view_is)
    ∙ iterate_defined (record { method = c.self.inside.method; memory = c.self.inside.memory }) all c.in_ok-factor.factor c.in_ok-waves.waves.items c.in_ok-factor.memory
    c.in_ok-factor.ensures.factor c.in_ok-waves.ensures.waves c.in_ok-factor.ensures.memory c.in_ok-waves.ensures.inside in
    λ _ place time component.
    names_none (Ok c.in_ok-waves.waves) (relaxed_iterate c.args.self.now all) c.in_ok-waves.waves (record { waves = c.in_ok-waves.waves.items; next = next }) refl defined place time component

pub returns-in_err-waves-clause-overflow : goal.returns-in_err-waves-clause-overflow
returns-in_err-waves-clause-overflow c =
    let all = exchanged c.args.degrees.now c.args.read.now c.args.posted.now in
    let p = err_from_is_err_and c.from_residual-in_err-waves.result c.from_residual-in_err-waves.ensures.1 in
    names_location c.from_residual-in_err-waves.result (relaxed_iterate c.args.self.now all) (first_outside (located (relaxed_waves c.in_ok-factor.factor all))) c.in_err-waves.field-0.0
    (p.1 ∙ ap Err p.2) c.in_err-waves.ensures.outside
    (λ location outside. ap (λ (s : RelaxerState). relaxed_iterate s all) (sym c.self.view_is)
    ∙ iterate_outside (record { method = c.self.inside.method; memory = c.self.inside.memory }) all c.in_ok-factor.factor location c.in_ok-factor.ensures.factor outside)

pub returns-clause-count : goal.returns-clause-count
returns-clause-count c =
    let all = exchanged c.args.degrees.now c.args.read.now c.args.posted.now in
    ap (λ (ws : List (List Sample)). length ws) c.in_ok-waves.ensures.waves
    ∙ length-map all (relaxed_wave c.in_ok-factor.factor)
    ∙ length-exchanged c.args.degrees.now c.args.read.now c.args.posted.now c.requires.one_degree c.requires.one_read
