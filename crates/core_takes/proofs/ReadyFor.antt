-- What is ready for a turn is ready for each exchange that the participant receives.
use Rattle.std.proofs.Common.{◌≡◌, ◌⊎◌, inl, inr, ℕ, suc, ◌+◌, ◌-◌, ◌<◌, ◌≤◌, Bool, true, false, if◌then◌else◌, nat_eq, List, length, Option, Some, None, IsSome, is_some, option_map, refl, ap, sym, subst, ◌∙◌, arith}
use Rattle.std.specs.Prelude.{slice_get}
use Rattle.std.specs.Option.{option_map_or}
use Rattle.std.proofs.lemmas.Bool.{eqb-true}
use Rattle.std.proofs.lemmas.Option.{none-some, same_Some, slice_get_within}
use Rattle.cpl_plan.specs.PlanWords.{passes, components_of}
use Rattle.cpl_plan.specs.ValidPlan.{IsValidPlan}
use Rattle.cpl_plan.specs.declared.parts.PlanParts.{PlanParts}
use Rattle.cpl_plan.specs.declared.parts.Exchange.{Exchange}
use Rattle.cpl_plan.specs.declared.parts.Scheme.{Scheme}
use Rattle.cpl_plan.specs.declared.words.Item.{Item}
use Rattle.cpl_plan.specs.declared.words.Item.TheVariants.{Completed, Posted}
use Rattle.coupled_loop.specs.Given.{Gift, Look, found}
use Rattle.sample_store.specs.Held.{newest_accepted, HoldsEndBefore, HoldsIterate, HoldsAccepted}
use Rattle.sample_store.specs.Kept.{Kept}
use Rattle.wave_coupling.specs.Posts.{Wave, Post}
use Rattle.wave_coupling.specs.InputWave.{completed, posted, iterated_samples}
use Rattle.wave_coupling.specs.Coupling.{start_of}
use Rattle.wave_laws.specs.Fitting.{IsPostedWave, count_of, end_told}
use Rattle.wave_laws.proofs.Senders.{is_exchange}
use Rattle.group_course.specs.CourseKept.{CourseKept}
use Rattle.group_course.specs.StoresTell.{StoreTells, gift_of}
use Rattle.group_course.specs.CourseTells.{CourseTells}
use Rattle.core_schemes.specs.declared.schemes.SchemeState.{SchemeState}
use Rattle.core_takes.specs.Ready.{IsReady}
use Rattle.core_takes.specs.Readable.{CanFollow, IsReadable, IsRepeatable}
use Rattle.core_takes.specs.declared.takes.TakeTurn.{TakeTurn}
use Rattle.core_takes.proofs.Followings.{posted_follows, end_shaped, follow_as}
use Rattle.core_takes.proofs.Repeats.{iterated_outline}

-- who receives an exchange reads it
pub reader_is : (plan : PlanParts) (x part : ℕ) (e : Exchange) → slice_get plan.exchanges x ≡ Some e → passes plan.exchanges x (λ e. nat_eq e.to part) ≡ true → e.to ≡ part
reader_is plan x part e at received =
    eqb-true e.to part (ap (λ (o : Option Exchange). option_map_or (λ e. nat_eq e.to part) o false) (sym at) ∙ received)

-- its scheme is there
pub scheme_there : (plan : PlanParts) → IsValidPlan plan → (x : ℕ) (e : Exchange) → slice_get plan.exchanges x ≡ Some e → e.scheme < length plan.schemes
scheme_there plan valid x e at = let is = is_exchange plan valid x e at in slice_get_within plan.schemes e.scheme is.scheme is.stands

-- what a scheme remembers, where its state is
pub state_with : (o : Option SchemeState) (course : CourseKept) → option_map (λ state. state.course) o ≡ Some course → (state : SchemeState) × (o ≡ Some state) × (state.course ≡ course)
state_with None course is = absurd (none-some course is)
state_with (Some state) course is = (state, refl, same_Some state.course course is)

module _ (plan : PlanParts) (look : Look Post) (x : ℕ) (e : Exchange) (store : Kept) (tells : StoreTells plan look x e store) where
  mapped : (o : Option (Gift Post)) → is_some {T = Gift Wave} (option_map (gift_of plan e x) o) ≡ is_some o
  mapped (Some gift) = refl
  mapped None = refl

  -- what is found was given
  was_given : (item : Item) → IsSome (found tells.given item) → IsSome (look e.from item)
  was_given item is = sym (mapped (look e.from item)) ∙ ap (λ (o : Option (Gift Wave)). is_some o) (sym (tells.tells item)) ∙ is

  before_given : (w : ℕ) → HoldsEndBefore store.progress w → IsSome (look e.from (Completed (w - 1)))
  before_given w held =
      was_given (Completed (w - 1)) (tells.stands.order.windows (w - 1) (elim held.1 [ inl same ↦ omega (arith, same) | inr less ↦ omega (arith, less) ]))

  accepted_given : (w : ℕ) → HoldsAccepted store.progress w → IsSome (look e.from (Completed w))
  accepted_given w held =
      let newest : newest_accepted store.progress ≡ store.progress.window = ap (λ (b : Bool). if b then store.progress.window else store.progress.window - 1) held.0 in
      was_given (Completed w) (tells.stands.order.windows w (omega (arith, newest, held.1)))

  newest_given : 1 ≤ store.progress.iteration → IsSome (found tells.given (Posted store.progress.window store.progress.iteration))
  newest_given some = ap (λ (o : Option (Gift Wave)). is_some o) (tells.stands.newest some)

  iterate_given : (w i : ℕ) → HoldsIterate store.progress w i → IsSome (look e.from (Posted w i))
  iterate_given w i held = was_given (Posted w i) (subst (λ (v : ℕ). IsSome (found tells.given (Posted v i))) (sym held.0) (by held.2)) where
    by : (i ≡ store.progress.iteration) ⊎ (i + 1 ≡ store.progress.iteration) → IsSome (found tells.given (Posted store.progress.window i))
    by (inl same) = subst (λ (j : ℕ). IsSome (found tells.given (Posted store.progress.window j))) (sym same) (newest_given (let some = held.1 in omega (arith, same, some)))
    by (inr less) =
        let some = held.1 in
        let two : store.progress.iteration ≡ suc (suc (i - 1)) = omega (arith, less, some) in
        let one : suc (i - 1) ≡ i = omega (arith, some) in
        subst (λ (j : ℕ). IsSome (found tells.given (Posted store.progress.window j))) one
        (tells.stands.order.iterations store.progress.window (i - 1)
        (subst (λ (j : ℕ). IsSome (found tells.given (Posted store.progress.window j))) two (newest_given (omega (arith, less)))))

module _ (plan : PlanParts) (stores : List (Option Kept)) (schemes : List SchemeState) (turn : TakeTurn) (ready : IsReady plan stores schemes turn)
    (x : ℕ) (e : Exchange) (store : Kept) (at : slice_get plan.exchanges x ≡ Some e) (tells : StoreTells plan ready.look x e store) (held : HoldsEndBefore store.progress turn.window) where
  follows : (samples : Wave) → IsPostedWave (start_of plan ready.look turn.window) (end_told plan ready.look turn.window) (components_of plan e) (count_of plan ready.vertices e) samples
      → CanFollow turn.start (completed plan ready.look e x (turn.window - 1)).wave samples
  follows samples fits =
      subst (λ (t : ℕ). CanFollow t (completed plan ready.look e x (turn.window - 1)).wave samples) (sym ready.tells.start)
      (posted_follows (start_of plan ready.look turn.window) (end_told plan ready.look turn.window) (components_of plan e) (count_of plan ready.vertices e)
      (completed plan ready.look e x (turn.window - 1)).wave samples
      (end_shaped plan ready.vertices ready.look x (turn.window - 1) e ready.fits at (before_given plan ready.look x e store tells turn.window held)) fits)

  posted_can_follow : (i : ℕ) → HoldsIterate store.progress turn.window i → CanFollow turn.start (completed plan ready.look e x (turn.window - 1)).wave (posted plan ready.look e x turn.window i).wave
  posted_can_follow i holds = follows (posted plan ready.look e x turn.window i).wave (ready.fits.posts x turn.window i e at (iterate_given plan ready.look x e store tells turn.window i holds))

  pub accepted_readable : HoldsAccepted store.progress turn.window → IsReadable turn x store (λ plan look e. (completed plan look e x turn.window).wave)
  accepted_readable holds = record {
    plan = plan;
    look = ready.look;
    e = e;
    tells = tells;
    follow = follows (completed plan ready.look e x turn.window).wave (ready.fits.accepted x turn.window e at held.0 (accepted_given plan ready.look x e store tells turn.window holds));
  }

  pub posted_readable : HoldsIterate store.progress turn.window turn.iteration → IsReadable turn x store (λ plan look e. (posted plan look e x turn.window turn.iteration).wave)
  posted_readable holds = record { plan = plan; look = ready.look; e = e; tells = tells; follow = posted_can_follow turn.iteration holds }

  pub repeatable : (scheme : Scheme) (course : CourseKept) → HoldsIterate store.progress turn.window (turn.iteration - 1)
      → CourseTells plan ready.look scheme turn.window turn.start (turn.iteration - 1) course → IsRepeatable turn x store course scheme.accel
  repeatable scheme course holds told = record {
    plan = plan;
    look = ready.look;
    e = e;
    scheme = scheme;
    by_scheme = refl;
    tells = tells;
    told = told;
    follow = follow_as (posted plan ready.look e x turn.window (turn.iteration - 1)).wave
        (iterated_samples plan ready.look e x turn.window turn.start (turn.iteration - 1) (Some scheme))
        (iterated_outline plan ready.look scheme turn.window turn.start (turn.iteration - 1) course told x e at)
        turn.start (completed plan ready.look e x (turn.window - 1)).wave (posted_can_follow (turn.iteration - 1) holds);
  }
