use Rattle.std.proofs.Common.{◌≡◌, List, ℤ, length, Option, arith, ap, sym, ◌∙◌}
use Rattle.cpl_plan.specs.declared.parts.Exchange.{Exchange}
use Rattle.convergence.specs.Change.{change_of}
use Rattle.wave_coupling.specs.Root.{norm}
use Rattle.wave_coupling.specs.Posts.{Wave, newest_values}
use Rattle.wave_coupling.specs.InputWave.{posted}
use Rattle.wave_coupling.specs.Judged.{change_in, size_in}
use Rattle.cpl_plan.proofs.Readings.{there}
use Rattle.group_course.proofs.Roots.{norm_is}
use Rattle.group_course.proofs.StoreWords.{posted_is}
use Rattle.group_course.proofs.OldValues.{old-length, new-length, few_values}
use Rattle.group_course.proofs.course.Course.norms_at.Goals as goal

pub norms_of-requires-clause-few : goal.norms_of-requires-clause-few
norms_of-requires-clause-few c =
    let own = c.requires.exchange in
    let ready = c.requires.ready in
    let at = c.args.at in
    let plan = c.args.plan.now in
    let s = there plan.schemes at.scheme c.requires.scheme in
    let new = posted_is plan ready.look c.args.x own.exchange c.store_of.result.now (ready.tells.posts c.args.x own.exchange c.store_of.result.now own.there own.own c.store_of.ensures.there)
    at.window at.number c.post_of.result.now c.post_of.ensures in
    let many = new-length plan c.requires.valid c.args.stores.now at c.args.self.now c.requires.first ready s.0 s.1 c.args.x own in
    let few = few_values plan c.requires.valid c.args.stores.now at c.args.self.now c.requires.first ready s.0 s.1 c.args.x own in
    omega (arith, few, many, ap (λ (vs : List ℤ). length vs) c.newest_values-new.ensures.values, ap (λ (w : Wave). length (newest_values w)) new)

pub norms_of-requires-clause-alike : goal.norms_of-requires-clause-alike
norms_of-requires-clause-alike c =
    let own = c.requires.exchange in
    let ready = c.requires.ready in
    let at = c.args.at in
    let plan = c.args.plan.now in
    let s = there plan.schemes at.scheme c.requires.scheme in
    let new = posted_is plan ready.look c.args.x own.exchange c.store_of.result.now (ready.tells.posts c.args.x own.exchange c.store_of.result.now own.there own.own c.store_of.ensures.there)
    at.window at.number c.post_of.result.now c.post_of.ensures in
    let many = new-length plan c.requires.valid c.args.stores.now at c.args.self.now c.requires.first ready s.0 s.1 c.args.x own in
    let before = old-length plan c.requires.valid c.args.stores.now at c.args.self.now c.requires.first ready s.0 s.1 c.args.x own in
    omega (
      arith,
      before,
      many,
      ap (λ (vs : List ℤ). length vs) (c.old_values-old.ensures ready.look own.exchange ready.tells own.there),
      ap (λ (vs : List ℤ). length vs) c.newest_values-new.ensures.values,
      ap (λ (w : Wave). length (newest_values w)) new,
    )

pub returns-clause-change : goal.returns-clause-change
returns-clause-change c = λ look tells.
    let own = c.requires.exchange in
    let at = c.args.at in
    let plan = c.args.plan.now in
    let e = own.exchange in
    let post = posted_is plan look c.args.x e c.store_of.result.now (tells.posts c.args.x e c.store_of.result.now own.there own.own c.store_of.ensures.there)
    at.window at.number c.post_of.result.now c.post_of.ensures in
    let new : c.newest_values-new.result.now ≡ newest_values (posted plan look e c.args.x at.window at.number).wave =
    c.newest_values-new.ensures.values ∙ ap (λ (w : Wave). newest_values w) (sym post) in
    let old = c.old_values-old.ensures look e tells own.there in
    norm_is (change_of c.newest_values-new.result.now c.old_values-old.result.now) c.norms_of.result.0 c.norms_of.ensures.change
    ∙ ap (λ (vs : List ℤ). norm (change_of vs c.old_values-old.result.now)) new
    ∙ ap (λ (vs : List ℤ). norm (change_of (newest_values (posted plan look e c.args.x at.window at.number).wave) vs)) old
    ∙ sym (ap (λ (o : Option Exchange). change_in plan look c.args.x at.window at.start at.number o) own.there)

pub returns-clause-size : goal.returns-clause-size
returns-clause-size c = λ look tells.
    let own = c.requires.exchange in
    let at = c.args.at in
    let plan = c.args.plan.now in
    let e = own.exchange in
    let post = posted_is plan look c.args.x e c.store_of.result.now (tells.posts c.args.x e c.store_of.result.now own.there own.own c.store_of.ensures.there)
    at.window at.number c.post_of.result.now c.post_of.ensures in
    norm_is c.newest_values-new.result.now c.norms_of.result.1 c.norms_of.ensures.size
    ∙ ap (λ (vs : List ℤ). norm vs) (c.newest_values-new.ensures.values ∙ ap (λ (w : Wave). newest_values w) (sym post))
    ∙ sym (ap (λ (o : Option Exchange). size_in plan look c.args.x at.window at.number o) own.there)
