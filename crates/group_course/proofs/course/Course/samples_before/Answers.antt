use Rattle.std.proofs.Common.{◌≡◌, ◌-◌, ap, sym, ◌∙◌}
use Rattle.std.proofs.lemmas.Option.{same_Some}
use Rattle.cpl_plan.specs.declared.parts.Exchange.{Exchange}
use Rattle.cpl_plan.specs.declared.parts.Kind.{Kind}
use Rattle.cpl_plan.specs.declared.parts.Kind.TheVariants.{Iterated}
use Rattle.wave_coupling.specs.Posts.{Wave, newest_values}
use Rattle.wave_coupling.specs.Judged.{old_values}
use Rattle.group_course.proofs.StoreWords.{posted_is}
use Rattle.group_course.proofs.OldValues.{old_iterated, old_other}
use Rattle.group_course.proofs.course.Course.samples_before.Goals as goal

pub returns-in-Iterated : goal.returns-in-Iterated
returns-in-Iterated c = λ look e tells there some.
    let at = c.args.at in
    let same : c.exchange.result.now ≡ e = same_Some c.exchange.result.now e (sym c.exchange.ensures ∙ there) in
    let kind : e.kind ≡ Iterated = ap (λ (f : Exchange). f.kind) (sym same) ∙ c.in-Iterated.is in
    let told = old_iterated c.args.plan.now look e c.args.x at.window at.start at.number c.requires.later there kind c.iterated_before.result.now some
    (sym (c.iterated_before.ensures look e tells there)) in
    sym (ap (λ (k : Kind). old_values c.args.plan.now look k e c.args.x at.window at.start at.number) kind ∙ told)

pub returns-in_default : goal.returns-in_default
returns-in_default c = λ look e tells there some.
    let own = c.requires.exchange in
    let at = c.args.at in
    let same : c.exchange.result.now ≡ e = same_Some c.exchange.result.now e (sym c.exchange.ensures ∙ there) in
    let scheme : e.scheme ≡ at.scheme = ap (λ (f : Exchange). f.scheme) (same_Some e own.exchange (sym there ∙ own.there)) ∙ own.own in
    let post = posted_is c.args.plan.now look c.args.x e c.store_of.result.now (tells.posts c.args.x e c.store_of.result.now there scheme c.store_of.ensures.there)
    at.window (at.number - 1) c.post_of.result.now c.post_of.ensures in
    sym (old_other c.args.plan.now look e c.args.x at.window at.start at.number e.kind c.requires.later
    (λ is. c.in_default.not-Iterated (ap (λ (f : Exchange). f.kind) same ∙ is))
    ∙ ap (λ (w : Wave). newest_values w) post)
