use Rattle.std.proofs.Common.{refl, ap, sym, subst, set, ◌∙◌, slice_get, length, List, Option}
use Rattle.coupled_loop.specs.Numbered.{put}
use Rattle.wave_coupling.specs.Posts.{Wave}
use Rattle.sample_store.specs.Kept.{Kept as StoreKept}
use Rattle.core_stores.specs.StoresStand.{AreStores}
use Rattle.core_stores.specs.StoreMoves.{AreOpened}
use Rattle.coupling_core.proofs.PutBack.{stores_back}
use Rattle.coupled_loop.specs.CoreStep.{posts}
use Rattle.coupling_core.specs.KeptView.{kept_view}
use Rattle.coupling_core.proofs.Inside.{may_now, granted_now, part_now, standing_now, here_now, answers_core, makes_core, kept_after}
use Rattle.coupling_core.proofs.PostEvents.{are_initial, initial_count, initial_makes}
use Rattle.coupling_core.proofs.machine.Core.post_initial.Goals as goal

pub opened_stores-requires : goal.opened_stores-requires
opened_stores-requires c =
    let now = kept_view c.self.inside in
    let here = here_now c.args.self.now (kept_view c.self.inside) c.self.view_is c.self.invariant c.args.p (posts c.args.waves) c.requires.fitting in
    rw c.as_slice.ensures
    (are_initial now c.self.invariant.valid c.args.p here.0 here.1 c.args.waves (may_now c.args.self.now (kept_view c.self.inside) c.self.view_is c.self.invariant c.args.p (posts c.args.waves) c.requires.fitting)
    (c.requires.place here.0 (sym (ap (λ core. slice_get core.standings c.args.p) c.self.view_is) ∙ here.1)) c.self.invariant)

pub install-requires-clause-sends : goal.install-requires-clause-sends
install-requires-clause-sends c =
    let now = kept_view c.self.inside in
    let here = here_now c.args.self.now (kept_view c.self.inside) c.self.view_is c.self.invariant c.args.p (posts c.args.waves) c.requires.fitting in
    c.in-Ok.ensures.count ∙ ap (λ xs. length xs) c.as_slice.ensures
    ∙ initial_count now c.self.invariant.valid c.args.p here.0 here.1 c.args.waves (may_now c.args.self.now (kept_view c.self.inside) c.self.view_is c.self.invariant c.args.p (posts c.args.waves) c.requires.fitting)
    (c.requires.place here.0 (sym (ap (λ core. slice_get core.standings c.args.p) c.self.view_is) ∙ here.1)) c.self.invariant

pub go_to-requires : goal.go_to-requires
go_to-requires c = standing_now c.args.self.now (kept_view c.self.inside) c.self.view_is c.self.invariant c.args.p (posts c.args.waves) c.requires.fitting

pub invariant_of-self : goal.invariant_of-self
invariant_of-self c =
    let now = kept_view c.self.inside in
    let here = here_now c.args.self.now (kept_view c.self.inside) c.self.view_is c.self.invariant c.args.p (posts c.args.waves) c.requires.fitting in
    let may = may_now c.args.self.now (kept_view c.self.inside) c.self.view_is c.self.invariant c.args.p (posts c.args.waves) c.requires.fitting in
    kept_after c.args.self.now (kept_view c.self.inside) c.self.view_is c.self.invariant c.args.p (posts c.args.waves) _ refl
    (initial_makes now c.self.invariant.valid c.args.p here.0 here.1 c.args.waves may (c.requires.place here.0 (sym (ap (λ core. slice_get core.standings c.args.p) c.self.view_is) ∙ here.1)) _ _ _ (
      c.go_to.ensures.standings here.0 here.1 ∙ ap (λ place. set c.self.inside.sides.standings.items c.args.p (record here.0 { place = place })) c.first_turn.ensures,
      ap (λ ends. ends.items) c.go_to.ensures.ends,
    )
    (λ sides side old none given.
    stores_back c.self.inside.plan c.self.inside.stores.len c.self.inside.stores.items c.install.new.stores (put sides c.args.p side) c.self.inside.stores.ok.0 (c.install.ensures.count ∙ ap (λ xs. length xs) c.deref_mut.ensures.value)
    (c.install.ensures.stands sides side c.args.waves
    (subst (λ (xs : List (Option StoreKept)). AreStores c.self.inside.plan xs sides) (sym c.deref_mut.ensures.value) old) none
    (subst (λ (xs : List Wave). AreOpened xs c.in-Ok.opened.items) c.as_slice.ensures c.in-Ok.ensures) given)))

pub returns-in-Ok-clause-stands : goal.returns-in-Ok-clause-stands
returns-in-Ok-clause-stands c =
    let now = kept_view c.self.inside in
    let here = here_now c.args.self.now (kept_view c.self.inside) c.self.view_is c.self.invariant c.args.p (posts c.args.waves) c.requires.fitting in
    let may = may_now c.args.self.now (kept_view c.self.inside) c.self.view_is c.self.invariant c.args.p (posts c.args.waves) c.requires.fitting in
    makes_core c.args.self.now (kept_view c.self.inside) c.self.view_is c.self.invariant c.args.p (posts c.args.waves) _
    (initial_makes now c.self.invariant.valid c.args.p here.0 here.1 c.args.waves may (c.requires.place here.0 (sym (ap (λ core. slice_get core.standings c.args.p) c.self.view_is) ∙ here.1)) _ _ _ (
      c.go_to.ensures.standings here.0 here.1 ∙ ap (λ place. set c.self.inside.sides.standings.items c.args.p (record here.0 { place = place })) c.first_turn.ensures,
      ap (λ ends. ends.items) c.go_to.ensures.ends,
    )
    (λ sides side old none given.
    stores_back c.self.inside.plan c.self.inside.stores.len c.self.inside.stores.items c.install.new.stores (put sides c.args.p side) c.self.inside.stores.ok.0 (c.install.ensures.count ∙ ap (λ xs. length xs) c.deref_mut.ensures.value)
    (c.install.ensures.stands sides side c.args.waves
    (subst (λ (xs : List (Option StoreKept)). AreStores c.self.inside.plan xs sides) (sym c.deref_mut.ensures.value) old) none
    (subst (λ (xs : List Wave). AreOpened xs c.in-Ok.opened.items) c.as_slice.ensures c.in-Ok.ensures) given)))
