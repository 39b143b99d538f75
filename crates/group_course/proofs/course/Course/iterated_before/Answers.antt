use Rattle.std.proofs.Common.{◌≡◌, ℕ, ◌-◌, Option, Some, ap, refl, sym, ◌∙◌}
use Rattle.std.specs.Prelude.{slice_get}
use Rattle.std.specs.Option.{option_map_or}
use Rattle.std.proofs.lemmas.Option.{same_Some}
use Rattle.cpl_plan.specs.declared.parts.Exchange.{Exchange}
use Rattle.cpl_plan.specs.declared.parts.Scheme.{Scheme}
use Rattle.wave_coupling.specs.InputWave.{iterated_samples, posted}
use Rattle.group_course.proofs.StoreWords.{posted_is}
use Rattle.group_course.proofs.course.Course.iterated_before.Goals as goal

pub returns-in-Some : goal.returns-in-Some
returns-in-Some c = λ look e tells there.
    let own = c.requires.exchange in
    let at = c.args.at in
    let same : own.exchange ≡ e = same_Some own.exchange e (sym own.there ∙ there) in
    let scheme : e.scheme ≡ at.scheme = ap (λ (f : Exchange). f.scheme) (sym same) ∙ own.own in
    let s = c.scheme_of.result.now in
    let schemes : slice_get c.args.plan.now.schemes e.scheme ≡ Some s = ap (λ (n : ℕ). slice_get c.args.plan.now.schemes n) scheme ∙ c.scheme_of.ensures.there in
    let told = c.relaxed.ensures.told c.args.plan.now look s e at.window at.start (at.number - 1) refl (tells.before s c.scheme_of.ensures.there c.requires.later) in
    sym (ap (λ (o : Option Scheme). iterated_samples c.args.plan.now look e c.args.x at.window at.start (at.number - 1) o) schemes
    ∙ told ∙ ap (λ r. option_map_or (λ wave. wave.now) r (posted c.args.plan.now look e c.args.x at.window (at.number - 1)).wave) c.in-Some.is)

pub returns-in-None : goal.returns-in-None
returns-in-None c = λ look e tells there.
    let own = c.requires.exchange in
    let at = c.args.at in
    let same : own.exchange ≡ e = same_Some own.exchange e (sym own.there ∙ there) in
    let scheme : e.scheme ≡ at.scheme = ap (λ (f : Exchange). f.scheme) (sym same) ∙ own.own in
    let s = c.scheme_of.result.now in
    let schemes : slice_get c.args.plan.now.schemes e.scheme ≡ Some s = ap (λ (n : ℕ). slice_get c.args.plan.now.schemes n) scheme ∙ c.scheme_of.ensures.there in
    let told = c.relaxed.ensures.told c.args.plan.now look s e at.window at.start (at.number - 1) refl (tells.before s c.scheme_of.ensures.there c.requires.later) in
    let post = posted_is c.args.plan.now look c.args.x e c.store_of.result.now (tells.posts c.args.x e c.store_of.result.now there scheme c.store_of.ensures.there)
    at.window (at.number - 1) c.post_of.result.now c.post_of.ensures in
    sym (ap (λ (o : Option Scheme). iterated_samples c.args.plan.now look e c.args.x at.window at.start (at.number - 1) o) schemes
    ∙ told ∙ ap (λ r. option_map_or (λ wave. wave.now) r (posted c.args.plan.now look e c.args.x at.window (at.number - 1)).wave) c.in-None.is ∙ post)
