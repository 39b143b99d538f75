-- Where a scheme has not judged a turn that all its members have posted, its course can judge it.
use Rattle.std.proofs.Common.{◌≡◌, ℕ, zero, suc, ◌-◌, ◌^◌, ◌<◌, ◌≤◌, inl, inr, if◌then◌else◌, Bool, false, List, [], ◌∷◌, length, slice_get, Option, Some, None, option_map, is_some, IsSome, refl, sym, ap, subst, ◌∙◌, arith, Contains}
use Rattle.std.proofs.lemmas.Option.{none-some}
use Rattle.plan_order.specs.declared.node.Node.TheVariants.{Group}
use Rattle.cpl_plan.specs.ValidPlan.{IsValidPlan}
use Rattle.cpl_plan.specs.declared.parts.PlanParts.{PlanParts}
use Rattle.cpl_plan.specs.declared.parts.Exchange.{Exchange}
use Rattle.cpl_plan.specs.declared.parts.Scheme.{Scheme}
use Rattle.cpl_plan.specs.declared.words.Item.{Item}
use Rattle.cpl_plan.specs.declared.words.Item.TheVariants.{Completed, Posted}
use Rattle.coupled_loop.specs.Given.{Gift, found}
use Rattle.coupled_loop.specs.CoreState.{Place, judging, look_in, turn_at}
use Rattle.coupled_loop.specs.PlanFrames.{group_of, members_of}
use Rattle.coupled_loop.specs.Settled.{HavePostedBelow}
use Rattle.core_laws.proofs.GoodMoves.{group_solved, among_members}
use Rattle.core_laws.proofs.PlanSound.{plan_sound}
use Rattle.core_laws.proofs.Sound.{IsSound, node_by}
use Rattle.core_laws.proofs.Steps.{posted_up_to}
use Rattle.core_laws.proofs.Well.{HasPostedBefore, IsBefore, Stands}
use Rattle.sample_store.specs.Kept.{Kept as StoreKept}
use Rattle.sample_store.specs.StandsFor.{StandsFor as StoreStandsFor}
use Rattle.sample_store.specs.declared.progress.Progress.{Progress}
use Rattle.sample_store.proofs.Mapped.{part_of, found_part}
use Rattle.wave_coupling.specs.Posts.{Post, Wave, wave_of}
use Rattle.wave_coupling.specs.Coupling.{wave_frame, exchanged}
use Rattle.wave_laws.specs.Fitting.{IsFittingLook}
use Rattle.wave_laws.proofs.JudgementsStay.{group_there}
use Rattle.wave_laws.proofs.Senders.{is_exchange, sender_in}
use Rattle.wave_laws.proofs.Settling.{wave_settled}
use Rattle.group_course.specs.declared.iteration.Iteration.{Iteration}
use Rattle.group_course.specs.CourseTells.{CourseTells}
use Rattle.group_course.specs.Held.{HoldsIteration, IsHeld}
use Rattle.group_course.specs.Ready.{Tells, IsReady}
use Rattle.group_course.specs.Shapes.{AreShaped}
use Rattle.group_course.specs.StoresTell.{StoresTell}
use Rattle.core_sides.specs.CoreWords.{WaveState}
use Rattle.core_sides.proofs.Aligned.{IsTold}
use Rattle.core_sides.proofs.Histories.{reached_told}
use Rattle.core_stores.specs.StoresStand.{gifts_of}
use Rattle.core_stores.proofs.Progresses.{posted_is}
use Rattle.core_schemes.specs.declared.schemes.SchemeState.{SchemeState}
use Rattle.core_schemes.specs.Judging.{HasJudged, MayJudge}
use Rattle.core_schemes.proofs.IterationShapes.{are_shaped}
use Rattle.core_schemes.proofs.Posted.{posted_here}
use Rattle.core_schemes.proofs.Together.{all_stand_there, before_told}

in_group : (p scheme : ℕ) (o : Option ℕ) → node_by p o ≡ Group scheme → o ≡ Some scheme
in_group p scheme None is = cc
in_group p scheme (Some one) is = let same : one ≡ scheme = cc in ap (λ (n : ℕ). Some n) same

-- lists of one length have an element at the same places
as_long : {X Y : Type 0} (xs : List X) (ys : List Y) (i : ℕ) (x : X) → length ys ≡ length xs → slice_get xs i ≡ Some x → slice_get ys i ≡ None → ⊥
as_long [] ys i x same at none = none-some x at
as_long (x' ∷ xs) [] i x same at none = omega (arith, same)
as_long (x' ∷ xs) (y ∷ ys) zero x same at none = none-some y (sym none)
as_long (x' ∷ xs) (y ∷ ys) (suc i) x same at none = as_long xs ys i x (omega (arith, same)) at none

-- a store whose newest post is that of turn (w, k) holds what is judged in it
holds : (progress : Progress) (w k : ℕ) → 1 ≤ w → 1 ≤ k → (progress.is_accepted ≡ false) × (progress.window ≡ w) × (progress.iteration ≡ k) → HoldsIteration progress w k
holds progress w k window iteration is = record {
  before = (window, inl (ap (λ (v : ℕ). v - 1) (sym is.1) ∙ sym (ap (λ (b : Bool). if b then progress.window else progress.window - 1) is.0)));
  newest = (sym is.1, iteration, inl (sym is.2));
  last = λ more. (sym is.1, omega (arith, more), inr (let own : progress.iteration ≡ k = is.2 in omega (arith, own, more)));
}

module _ (plan : PlanParts) (valid : IsValidPlan plan) (stores : List (Option StoreKept)) (state : SchemeState) (at : Iteration) (sides : WaveState) (may : MayJudge plan stores state at sides) where
  pub told_of : IsTold (wave_frame plan) sides
  told_of = reached_told plan may.history sides valid (wave_settled plan valid) may.reached

  is_sound : IsSound (wave_frame plan)
  is_sound = plan_sound plan (exchanged plan) valid

  pub stands_at : Stands (wave_frame plan) (look_in sides) may.part (judging at.scheme at.window at.number) (sides may.part).given
  stands_at = subst (λ (p : Place). Stands (wave_frame plan) (look_in sides) may.part p (sides may.part).given) may.place (told_of.well.stands may.part)

  pub is_implicit_scheme : Contains plan.nodes (Group at.scheme)
  is_implicit_scheme = group_solved (wave_frame plan) is_sound may.part at.scheme may.is_part stands_at.0

  pub scheme_there : (scheme : Scheme) × (slice_get plan.schemes at.scheme ≡ Some scheme)
  scheme_there = group_there plan valid at.scheme is_implicit_scheme

  pub have_posted : HavePostedBelow (wave_frame plan) (look_in sides) at.scheme at.window (suc at.number)
  have_posted = posted_up_to (wave_frame plan) sides may.part at.scheme at.window at.number may.posted (stands_at.1.group at.scheme stands_at.0)

  member_posted : (one : ℕ) → one < length plan.parts → group_of plan one ≡ Some at.scheme → IsSome (look_in sides one (Posted at.window at.number))
  member_posted one below in_it = have_posted one at.number (among_members (wave_frame plan) is_sound one at.scheme below in_it) stands_at.2.iteration (omega arith)

  -- all members stand there
  pub members_there : (HasJudged at state.last → ⊥) → (one : ℕ) → one < length plan.parts → group_of plan one ≡ Some at.scheme → turn_at (sides one).place ≡ (at.window, at.number)
  members_there new =
      all_stand_there plan sides told_of at.scheme at.window at.number stands_at.1.window member_posted may.part may.is_part stands_at.0 (ap turn_at may.place) scheme_there.0 state state.last new
      (may.scheme_stands scheme_there.0 scheme_there.1)

  -- of each exchange of the scheme
  module _ (x : ℕ) (e : Exchange) (exchange : slice_get plan.exchanges x ≡ Some e) (own : e.scheme ≡ at.scheme) where
    sender_among : Contains (members_of plan at.scheme) e.from
    sender_among = sender_in plan valid e at.scheme (is_exchange plan valid x e exchange) own

    sender_of : (e.from < length plan.parts) × (node_by e.from (group_of plan e.from) ≡ Group at.scheme)
    sender_of = is_sound.of_node (Group at.scheme) e.from is_implicit_scheme sender_among

    sender_grouped : group_of plan e.from ≡ Some at.scheme
    sender_grouped = in_group e.from at.scheme (group_of plan e.from) sender_of.1

    sender_posted : IsSome (look_in sides e.from (Posted at.window at.number))
    sender_posted = member_posted e.from sender_of.0 sender_grouped

    is_given_same : (item : Item) → is_some (found (gifts_of plan e x (sides e.from).given) item) ≡ is_some (look_in sides e.from item)
    is_given_same item = ap (λ (o : Option (Gift Wave)). is_some o) (found_part (wave_of plan e x) (sides e.from).given item) ∙ mapped (look_in sides e.from item) where
      mapped : (o : Option (Gift Post)) → is_some (option_map (part_of (wave_of plan e x)) o) ≡ is_some o
      mapped (Some gift) = refl
      mapped None = refl

    module _ (new : HasJudged at state.last → ⊥) where
      sender_stands : IsBefore (wave_frame plan) (look_in sides) e.from at.window at.number × HasPostedBefore (wave_frame plan) (look_in sides) e.from at.window (suc at.number)
      sender_stands =
          posted_here (wave_frame plan) sides e.from at.window at.number sender_posted (sides e.from).place (told_of.well.stands e.from) (members_there new e.from sender_of.0 sender_grouped)

      pub completed_before : IsSome (look_in sides e.from (Completed (at.window - 1)))
      completed_before = sender_stands.0.completed

      store_holds : (store : StoreKept) → StoreStandsFor (gifts_of plan e x (sides e.from).given) store → HoldsIteration store.progress at.window at.number
      store_holds store stands =
          holds store.progress at.window at.number stands_at.1.window stands_at.2.iteration
          (posted_is (wave_frame plan) (look_in sides) e.from (gifts_of plan e x (sides e.from).given) store.progress stands.order is_given_same at.window at.number sender_stands.0 sender_stands.1
          sender_posted)

      pub is_held : IsHeld stores x at.window at.number
      is_held = by (slice_get stores x) refl where
        by : (o : Option (Option StoreKept)) → slice_get stores x ≡ o → IsHeld stores x at.window at.number
        by None there = absurd (as_long plan.exchanges stores x e may.stores_stand.count exchange there)
        by (Some None) there =
            let empty : gifts_of plan e x (sides e.from).given ≡ [] = may.stores_stand.each x e None exchange there in
            let given : IsSome (found (gifts_of plan e x (sides e.from).given) (Posted at.window at.number)) = is_given_same (Posted at.window at.number) ∙ sender_posted in
            let never : IsSome (found {Post = Wave} [] (Posted at.window at.number)) = subst (λ (list : List (Gift Wave)). IsSome (found list (Posted at.window at.number))) empty given in cc
        by (Some (Some store)) there = record { store = store; there = there; holds = store_holds store (may.stores_stand.each x e (Some store) exchange there) }

  pub stores_tell : StoresTell plan (look_in sides) at.scheme stores
  stores_tell = λ x e store exchange own there. record {
    given = gifts_of plan e x (sides e.from).given;
    stands = may.stores_stand.each x e (Some store) exchange there;
    tells = λ item. found_part (wave_of plan e x) (sides e.from).given item;
  }

  module _ (new : HasJudged at state.last → ⊥) where
    -- what the course tells of the iteration before
    tells_before : (scheme : Scheme) → slice_get plan.schemes at.scheme ≡ Some scheme → 2 ≤ at.number → CourseTells plan (look_in sides) scheme at.window at.start (at.number - 1) state.course
    tells_before scheme there more =
        subst (λ (start : ℕ). CourseTells plan (look_in sides) scheme at.window start (at.number - 1) state.course) (sym may.start)
        (before_told plan sides told_of at.scheme at.window at.number stands_at.1.window member_posted may.part may.is_part stands_at.0 (ap turn_at may.place) scheme state state.last new
        (may.scheme_stands scheme there) more)

    pub all_tells : Tells plan stores at state.course (look_in sides)
    all_tells = record { posts = stores_tell; before = tells_before }

    pub shaped : (vertices : ℕ → ℕ) → IsFittingLook plan vertices (look_in sides) → ((mesh : ℕ) → vertices mesh ≤ 10 ^ 4) → AreShaped plan (look_in sides) at.scheme at.window at.start at.number
    shaped vertices fits few =
        subst (λ (start : ℕ). AreShaped plan (look_in sides) at.scheme at.window start at.number) (sym may.start)
        (are_shaped plan vertices (look_in sides) fits at.scheme at.window at.number few
        (λ x e exchange own. completed_before x e exchange own new)
        (λ x e exchange own j low high. have_posted e.from j (sender_among x e exchange own) low (omega (arith, high)))
        stands_at.2.iteration)

    abbrev pub is_ready : (vertices : ℕ → ℕ) → IsFittingLook plan vertices (look_in sides) → ((mesh : ℕ) → vertices mesh ≤ 10 ^ 4) → IsReady plan stores at state.course
    is_ready vertices fits few = record {
      look = look_in sides;
      tells = all_tells;
      held = λ x e exchange own. is_held x e exchange own new;
      shaped = shaped vertices fits few;
    }
