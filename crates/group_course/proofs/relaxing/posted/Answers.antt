use Rattle.std.proofs.Common.{rules, ◌≡◌, ℕ, ◌<◌, ◌++◌, ◌∷◌, [], List, length, get_or, take, map, arith, ap, sym, subst, ◌∙◌}
use Rattle.std.proofs.lemmas.Option.{slice_get-get_or}
use Rattle.wave_coupling.specs.Posts.{Wave}
use Rattle.wave_coupling.specs.InputWave.{over}
use Rattle.group_course.specs.CourseTells.{posted_wave}
use Rattle.group_course.specs.Held.{IsHeld}
use Rattle.group_course.specs.Norms.{IsExchangeOf}
use Rattle.group_course.proofs.Maps.{mapped_next}
use Rattle.group_course.proofs.OfPlan.{own_at}
use Rattle.group_course.proofs.StoreWords.{posted_wave_is}
use Rattle.group_course.proofs.relaxing.posted.Goals as goal

pub store_of-store-requires : goal.store_of-store-requires
store_of-store-requires c =
    let i = c.loop-place.place in
    let at = c.args.at in
    let s = c.scheme_of.result.now in
    let inside : i < length (over s.accel) = omega (arith, c.loop-place-test.true, ap (λ (xs : List ℕ). length xs) c.over-exchanges.ensures) in
    let own = own_at c.args.plan.now c.scheme_of.ensures.valid at.scheme s c.scheme_of.ensures.there i inside in
    subst (λ (xs : List ℕ). IsHeld c.args.stores.now (get_or xs i 0) at.window at.number) (sym c.over-exchanges.ensures)
    (c.requires.held (get_or (over s.accel) i 0) own.exchange own.there own.own)

pub loop-place-preserved : goal.loop-place-preserved
loop-place-preserved c = λ look tells.
    let i = c.loop-place.place in
    let at = c.args.at in
    let s = c.scheme_of.result.now in
    let xs = c.over-exchanges.result.now in
    let inside : i < length xs = omega (arith, c.loop-place-test.true) in
    let within : i < length (over s.accel) = omega (arith, inside, ap (λ (ys : List ℕ). length ys) c.over-exchanges.ensures) in
    let own = subst (λ (ys : List ℕ). IsExchangeOf c.args.plan.now at.scheme (get_or ys i 0)) (sym c.over-exchanges.ensures)
    (own_at c.args.plan.now c.scheme_of.ensures.valid at.scheme s c.scheme_of.ensures.there i within) in
    let f = posted_wave c.args.plan.now look at.window at.number in
    let copy = c.in_ok-copy.field-0 in
    let pushed : c.push.new.self.items ≡ c.loop-place.waves.items ++ copy ∷ [] = search rules in
    let wave : f (get_or xs i 0) ≡ copy =
    posted_wave_is c.args.plan.now look at.scheme (get_or xs i 0) c.args.stores.now c.store_of-store.result.now tells own c.store_of-store.ensures.there at.window at.number c.post_of.result.now c.post_of.ensures
    ∙ sym c.in_ok-copy.ensures in
    pushed ∙ ap (λ (ws : List Wave). ws ++ copy ∷ []) (c.loop-place.invariant look tells)
    ∙ ap (λ (w : Wave). map f (take i xs) ++ w ∷ []) (sym wave)
    ∙ sym (mapped_next f xs i (get_or xs i 0) (slice_get-get_or xs i 0 inside))
