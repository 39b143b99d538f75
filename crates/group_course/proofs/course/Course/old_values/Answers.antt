use Rattle.std.proofs.Common.{◌≡◌, ◌-◌, ap, refl, sym, ◌∙◌}
use Rattle.std.proofs.lemmas.Option.{same_Some}
use Rattle.cpl_plan.specs.declared.parts.Exchange.{Exchange}
use Rattle.group_course.proofs.StoreWords.{end_values_are}
use Rattle.group_course.proofs.OldValues.{old_first}
use Rattle.group_course.proofs.course.Course.old_values.Goals as goal

pub returns-then-at-eq1 : goal.returns-then-at-eq1
returns-then-at-eq1 c = λ look e tells there.
    let own = c.requires.exchange in
    let at = c.args.at in
    let scheme : e.scheme ≡ at.scheme = ap (λ (f : Exchange). f.scheme) (same_Some e own.exchange (sym there ∙ own.there)) ∙ own.own in
    let ends = end_values_are c.args.plan.now look c.args.x e c.store_of.result.now (tells.posts c.args.x e c.store_of.result.now there scheme c.store_of.ensures.there)
    (at.window - 1) c.end_before.result.now c.end_before.ensures.looked_up in
    c.as_slice.ensures ∙ sym (old_first c.args.plan.now look e c.args.x at.window at.start at.number e.kind c.if-at-eq1.true there refl ∙ ends)

pub returns : goal.returns
returns c = λ look e tells there.
    c.newest_values.ensures.values ∙ c.samples_before.ensures look e tells there c.newest_values.ensures.some
