use Rattle.std.proofs.Common.{◌≡◌, ℕ, ◌<◌, ◌≤◌, ◌∷◌, [], List, length, get_or, map, Some, arith, ap, sym, subst, ◌∙◌}
use Rattle.std.specs.Prelude.{slice_get}
use Rattle.std.proofs.lemmas.List.{get_or_read}
use Rattle.std.proofs.lemmas.Option.{same_Some, slice_get-get_or}
use Rattle.std.proofs.lemmas.Result.{IfOk-weaker}
use Rattle.cpl_plan.specs.declared.parts.Scheme.{Scheme}
use Rattle.coupled_loop.specs.Given.{Look}
use Rattle.wave_coupling.specs.Posts.{Wave, Post}
use Rattle.wave_coupling.specs.InputWave.{over}
use Rattle.group_course.specs.CourseKept.{CourseKept}
use Rattle.group_course.specs.Held.{IsHeld}
use Rattle.group_course.specs.Ready.{Tells}
use Rattle.group_course.specs.Taken.{read_in, waves_before}
use Rattle.group_course.proofs.OfPlan.{own_at}
use Rattle.group_course.proofs.Relaxables.{as_many, relaxed_none, relaxed_at}
use Rattle.group_course.proofs.ReadWaves.{read_is, after_start, few_samples, alike_start}
use Rattle.group_course.proofs.course.Course.read_at.Goals as goal

pub store_of-requires : goal.store_of-requires
store_of-requires c =
    let s = c.scheme_of.result.now in
    let there = c.scheme_of.ensures.there in
    let own = own_at c.args.plan.now c.scheme_of.ensures.valid c.args.at.scheme s there c.args.place (c.requires.inside s there) in
    subst (λ (xs : List ℕ). IsHeld c.args.stores.now (get_or xs c.args.place 0) c.args.at.window c.args.at.number) (sym c.over.ensures)
    (c.requires.ready.held (get_or (over s.accel) c.args.place 0) own.exchange own.there own.own)

pub returns-then-at-eq1 : goal.returns-then-at-eq1
returns-then-at-eq1 c =
    let plan = c.args.plan.now in
    let stores = c.args.stores.now in
    let at = c.args.at in
    let course = c.args.self.now in
    let place = c.args.place in
    let s = c.scheme_of.result.now in
    let there = c.scheme_of.ensures.there in
    let inside = c.requires.inside s there in
    let x = get_or (over s.accel) place 0 in
    let here = slice_get-get_or (over s.accel) place 0 inside in
    let own = own_at plan c.scheme_of.ensures.valid at.scheme s there place inside in
    let store = c.store_of.result.now in
    let same : get_or c.over.result.now place 0 ≡ x = ap (λ (xs : List ℕ). get_or xs place 0) c.over.ensures in
    let kept = subst (λ (n : ℕ). slice_get stores n ≡ Some (Some store)) same c.store_of.ensures.there in
    let field = c.end_before-before.result.now in
    let Q : Wave → Type 0 = λ wave. (look : Look Post) (scheme : Scheme) → Tells plan stores at course look → slice_get plan.schemes at.scheme ≡ Some scheme
    → slice_get (map (read_in plan look scheme at.window at.start (waves_before at.number course.waves)) (over scheme.accel)) place ≡ Some wave in
    IfOk-weaker c.constant_at.result (λ (wave : Wave). wave ≡ record { time = at.start; field = field } ∷ []) Q
    (λ wave made. λ look scheme tells is.
    subst (λ (z : Scheme). slice_get (map (read_in plan look z at.window at.start (waves_before at.number course.waves)) (over z.accel)) place ≡ Some wave) (same_Some s scheme (sym there ∙ is))
    (read_is plan stores at s (waves_before at.number course.waves) look tells.posts place x here own store kept field c.end_before-before.ensures.looked_up [] wave
    (relaxed_none plan c.scheme_of.ensures.valid stores at course c.requires.first c.requires.ready s there c.if-at-eq1.true x) made))
    c.constant_at.ensures

pub led_by-requires-clause-later : goal.led_by-requires-clause-later
led_by-requires-clause-later c =
    let at = c.args.at in
    let place = c.args.place in
    let s = c.scheme_of.result.now in
    let there = c.scheme_of.ensures.there in
    let inside = c.requires.inside s there in
    let later : 2 ≤ at.number = omega (arith, c.requires.first, c.if-at-eq1.false) in
    let own = own_at c.args.plan.now c.scheme_of.ensures.valid at.scheme s there place inside in
    let wave = c.index.result.now in
    let found : wave ≡ get_or c.args.self.now.waves place wave = c.index.ensures ∙ ap (λ (k : CourseKept). get_or k.waves place wave) c.self.view_is in
    after_start c.args.plan.now c.scheme_of.ensures.valid c.args.stores.now at c.args.self.now c.requires.first c.requires.ready s there later place (get_or (over s.accel) place 0)
    (slice_get-get_or (over s.accel) place 0 inside) own wave found

pub led_by-requires-clause-alike : goal.led_by-requires-clause-alike
led_by-requires-clause-alike c =
    let at = c.args.at in
    let place = c.args.place in
    let stores = c.args.stores.now in
    let s = c.scheme_of.result.now in
    let there = c.scheme_of.ensures.there in
    let inside = c.requires.inside s there in
    let later : 2 ≤ at.number = omega (arith, c.requires.first, c.if-at-eq1.false) in
    let own = own_at c.args.plan.now c.scheme_of.ensures.valid at.scheme s there place inside in
    let store = c.store_of.result.now in
    let same : get_or c.over.result.now place 0 ≡ get_or (over s.accel) place 0 = ap (λ (xs : List ℕ). get_or xs place 0) c.over.ensures in
    let kept = subst (λ (n : ℕ). slice_get stores n ≡ Some (Some store)) same c.store_of.ensures.there in
    let wave = c.index.result.now in
    let found : wave ≡ get_or c.args.self.now.waves place wave = c.index.ensures ∙ ap (λ (k : CourseKept). get_or k.waves place wave) c.self.view_is in
    alike_start c.args.plan.now c.scheme_of.ensures.valid stores at c.args.self.now c.requires.first c.requires.ready s there later place (get_or (over s.accel) place 0)
    (slice_get-get_or (over s.accel) place 0 inside) own wave found store kept c.end_before-before.result.now c.end_before-before.ensures.looked_up

pub led_by-requires-clause-few : goal.led_by-requires-clause-few
led_by-requires-clause-few c =
    let at = c.args.at in
    let place = c.args.place in
    let s = c.scheme_of.result.now in
    let there = c.scheme_of.ensures.there in
    let inside = c.requires.inside s there in
    let later : 2 ≤ at.number = omega (arith, c.requires.first, c.if-at-eq1.false) in
    let own = own_at c.args.plan.now c.scheme_of.ensures.valid at.scheme s there place inside in
    let wave = c.index.result.now in
    let found : wave ≡ get_or c.args.self.now.waves place wave = c.index.ensures ∙ ap (λ (k : CourseKept). get_or k.waves place wave) c.self.view_is in
    let few = few_samples c.args.plan.now c.scheme_of.ensures.valid c.args.stores.now at c.args.self.now c.requires.first c.requires.ready s there later place (get_or (over s.accel) place 0)
    (slice_get-get_or (over s.accel) place 0 inside) own wave found in
    omega (arith, few)

pub returns : goal.returns
returns c =
    let plan = c.args.plan.now in
    let stores = c.args.stores.now in
    let at = c.args.at in
    let course = c.args.self.now in
    let place = c.args.place in
    let valid = c.scheme_of.ensures.valid in
    let s = c.scheme_of.result.now in
    let there = c.scheme_of.ensures.there in
    let inside = c.requires.inside s there in
    let later : 2 ≤ at.number = omega (arith, c.requires.first, c.if-at-eq1.false) in
    let x = get_or (over s.accel) place 0 in
    let here = slice_get-get_or (over s.accel) place 0 inside in
    let own = own_at plan valid at.scheme s there place inside in
    let store = c.store_of.result.now in
    let same : get_or c.over.result.now place 0 ≡ x = ap (λ (xs : List ℕ). get_or xs place 0) c.over.ensures in
    let kept = subst (λ (n : ℕ). slice_get stores n ≡ Some (Some store)) same c.store_of.ensures.there in
    let field = c.end_before-before.result.now in
    let rest = c.index.result.now in
    let found : rest ≡ get_or course.waves place rest = c.index.ensures ∙ ap (λ (k : CourseKept). get_or k.waves place rest) c.self.view_is in
    let within : place < length course.waves = omega (arith, inside, as_many plan valid stores at course c.requires.first c.requires.ready s there later) in
    let relaxed = relaxed_at plan valid stores at course c.requires.first c.requires.ready s there later place x here ∙ sym (get_or_read course.waves place rest within found []) in
    let Q : Wave → Type 0 = λ wave. (look : Look Post) (scheme : Scheme) → Tells plan stores at course look → slice_get plan.schemes at.scheme ≡ Some scheme
    → slice_get (map (read_in plan look scheme at.window at.start (waves_before at.number course.waves)) (over scheme.accel)) place ≡ Some wave in
    IfOk-weaker c.led_by.result (λ (wave : Wave). wave ≡ record { time = at.start; field = field } ∷ rest) Q
    (λ wave made. λ look scheme tells is.
    subst (λ (z : Scheme). slice_get (map (read_in plan look z at.window at.start (waves_before at.number course.waves)) (over z.accel)) place ≡ Some wave) (same_Some s scheme (sym there ∙ is))
    (read_is plan stores at s (waves_before at.number course.waves) look tells.posts place x here own store kept field c.end_before-before.ensures.looked_up rest wave relaxed made))
    c.led_by.ensures
