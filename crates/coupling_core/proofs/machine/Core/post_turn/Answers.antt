use Rattle.std.proofs.Common.{if◌then◌else◌, [], ◌∷◌, ◌++◌, refl, ap, sym, subst, ◌∙◌, slice_get, length, List, Option}
use Rattle.coupled_loop.specs.Numbered.{put}
use Rattle.coupled_loop.specs.CoreStep.{posts, after_post}
use Rattle.coupled_loop.specs.PlanFrames.{group_of}
use Rattle.wave_coupling.specs.Posts.{Post, newest_time}
use Rattle.wave_coupling.specs.Coupling.{makes_windows}
use Rattle.sample_store.specs.Kept.{Kept as StoreKept}
use Rattle.core_stores.specs.StoresStand.{AreStores}
use Rattle.core_stores.specs.StoreMoves.{AreNext}
use Rattle.coupling_core.specs.KeptView.{kept_view}
use Rattle.coupling_core.proofs.Inside.{may_now, granted_now, part_now, standing_now, here_now, answers_core, makes_core, kept_after}
use Rattle.coupling_core.proofs.PutBack.{stores_back}
use Rattle.coupling_core.proofs.PostEvents.{turn_count, turn_is_next, window_within, turn_makes}
use Rattle.coupling_core.proofs.machine.Core.post_turn.Goals as goal

pub post_waves-requires-clause-participant : goal.post_waves-requires-clause-participant
post_waves-requires-clause-participant c = part_now c.args.self.now (kept_view c.self.inside) c.self.view_is c.self.invariant c.args.p (posts c.args.waves) c.requires.fitting

pub post_waves-requires-clause-standing : goal.post_waves-requires-clause-standing
post_waves-requires-clause-standing c = standing_now c.args.self.now (kept_view c.self.inside) c.self.view_is c.self.invariant c.args.p (posts c.args.waves) c.requires.fitting

pub post_waves-requires-clause-sends : goal.post_waves-requires-clause-sends
post_waves-requires-clause-sends c =
    let now = kept_view c.self.inside in
    let here = here_now c.args.self.now (kept_view c.self.inside) c.self.view_is c.self.invariant c.args.p (posts c.args.waves) c.requires.fitting in
    let may = may_now c.args.self.now (kept_view c.self.inside) c.self.view_is c.self.invariant c.args.p (posts c.args.waves) c.requires.fitting in
    ap (λ xs. length xs) c.into_vec.ensures ∙ turn_count now c.self.invariant.valid c.args.p here.0 here.1 c.args.waves may c.args.w c.args.k (c.requires.place here.0 (sym (ap (λ core. slice_get core.standings c.args.p) c.self.view_is) ∙ here.1)) c.self.invariant

pub post_waves-requires-clause-next : goal.post_waves-requires-clause-next
post_waves-requires-clause-next c =
    let now = kept_view c.self.inside in
    let here = here_now c.args.self.now (kept_view c.self.inside) c.self.view_is c.self.invariant c.args.p (posts c.args.waves) c.requires.fitting in
    let may = may_now c.args.self.now (kept_view c.self.inside) c.self.view_is c.self.invariant c.args.p (posts c.args.waves) c.requires.fitting in
    subst (λ (xs : List (Option StoreKept)). AreNext c.self.inside.plan.exchanges xs c.args.p c.args.w c.args.k) (sym c.deref_mut.ensures.value)
    (turn_is_next now c.self.invariant.valid c.args.p here.0 here.1 c.args.waves may c.args.w c.args.k (c.requires.place here.0 (sym (ap (λ core. slice_get core.standings c.args.p) c.self.view_is) ∙ here.1)) c.self.invariant)

pub post_waves-requires-clause-window : goal.post_waves-requires-clause-window
post_waves-requires-clause-window c =
    let now = kept_view c.self.inside in
    let here = here_now c.args.self.now (kept_view c.self.inside) c.self.view_is c.self.invariant c.args.p (posts c.args.waves) c.requires.fitting in
    let may = may_now c.args.self.now (kept_view c.self.inside) c.self.view_is c.self.invariant c.args.p (posts c.args.waves) c.requires.fitting in
    window_within now c.self.invariant.valid c.args.p here.0 here.1 c.args.waves may c.args.w c.args.k (c.requires.place here.0 (sym (ap (λ core. slice_get core.standings c.args.p) c.self.view_is) ∙ here.1)) c.self.invariant

pub invariant_of-self : goal.invariant_of-self
invariant_of-self c =
    let now = kept_view c.self.inside in
    let here = here_now c.args.self.now (kept_view c.self.inside) c.self.view_is c.self.invariant c.args.p (posts c.args.waves) c.requires.fitting in
    let may = may_now c.args.self.now (kept_view c.self.inside) c.self.view_is c.self.invariant c.args.p (posts c.args.waves) c.requires.fitting in
    kept_after c.args.self.now (kept_view c.self.inside) c.self.view_is c.self.invariant c.args.p (posts c.args.waves) _ refl
    (turn_makes now c.self.invariant.valid c.args.p here.0 here.1 c.args.waves may c.args.w c.args.k (c.requires.place here.0 (sym (ap (λ core. slice_get core.standings c.args.p) c.self.view_is) ∙ here.1)) _ _ _ (c.post_waves.ensures.standings here.0 here.1)
    (ap (λ ends. ends.items) c.post_waves.ensures.ends ∙ c.in-Ok.ensures.ends
    ∙ ap (λ (xs : Post). if makes_windows c.self.inside.plan c.args.p then c.self.inside.sides.ends.items ++ newest_time xs ∷ [] else c.self.inside.sides.ends.items) c.as_slice.ensures)
    (λ sides old.
    stores_back c.self.inside.plan c.self.inside.stores.len c.self.inside.stores.items c.post_waves.new.stores _ c.self.inside.stores.ok.0 (c.post_waves.auto.stores ∙ ap (λ xs. length xs) c.deref_mut.ensures.value)
    (subst (λ (xs : Post). AreStores c.self.inside.plan c.post_waves.new.stores (put sides c.args.p (after_post (group_of c.self.inside.plan c.args.p) c.args.w c.args.k xs (sides c.args.p)))) c.into_vec.ensures
    (c.post_waves.ensures.stores sides (subst (λ (xs : List (Option StoreKept)). AreStores c.self.inside.plan xs sides) (sym c.deref_mut.ensures.value) old)))))

pub returns-in-Ok-clause-stands : goal.returns-in-Ok-clause-stands
returns-in-Ok-clause-stands c =
    let now = kept_view c.self.inside in
    let here = here_now c.args.self.now (kept_view c.self.inside) c.self.view_is c.self.invariant c.args.p (posts c.args.waves) c.requires.fitting in
    let may = may_now c.args.self.now (kept_view c.self.inside) c.self.view_is c.self.invariant c.args.p (posts c.args.waves) c.requires.fitting in
    makes_core c.args.self.now (kept_view c.self.inside) c.self.view_is c.self.invariant c.args.p (posts c.args.waves) _
    (turn_makes now c.self.invariant.valid c.args.p here.0 here.1 c.args.waves may c.args.w c.args.k (c.requires.place here.0 (sym (ap (λ core. slice_get core.standings c.args.p) c.self.view_is) ∙ here.1)) _ _ _ (c.post_waves.ensures.standings here.0 here.1)
    (ap (λ ends. ends.items) c.post_waves.ensures.ends ∙ c.in-Ok.ensures.ends
    ∙ ap (λ (xs : Post). if makes_windows c.self.inside.plan c.args.p then c.self.inside.sides.ends.items ++ newest_time xs ∷ [] else c.self.inside.sides.ends.items) c.as_slice.ensures)
    (λ sides old.
    stores_back c.self.inside.plan c.self.inside.stores.len c.self.inside.stores.items c.post_waves.new.stores _ c.self.inside.stores.ok.0 (c.post_waves.auto.stores ∙ ap (λ xs. length xs) c.deref_mut.ensures.value)
    (subst (λ (xs : Post). AreStores c.self.inside.plan c.post_waves.new.stores (put sides c.args.p (after_post (group_of c.self.inside.plan c.args.p) c.args.w c.args.k xs (sides c.args.p)))) c.into_vec.ensures
    (c.post_waves.ensures.stores sides (subst (λ (xs : List (Option StoreKept)). AreStores c.self.inside.plan xs sides) (sym c.deref_mut.ensures.value) old)))))
