-- When a participant takes its inputs and waits for nobody, what is kept is ready for its turn.
use Rattle.std.proofs.Common.{◌≡◌, inl, inr, ℕ, ◌+◌, ◌-◌, ◌<◌, ◌≤◌, Bool, true, false, List, [], length, Option, Some, None, IsTrue, IsSome, is_some, refl, ap, sym, subst, ◌∙◌, arith, Contains}
use Rattle.std.specs.Prelude.{slice_get}
use Rattle.std.proofs.lemmas.Bool.{false≢true}
use Rattle.std.proofs.lemmas.Option.{slice_get-get_or, slice_get_within}
use Rattle.cpl_plan.specs.ExchangeKinds.{exchange_kind, is_implicit}
use Rattle.cpl_plan.specs.Needs.{is_second}
use Rattle.cpl_plan.specs.ValidPlan.{IsValidPlan}
use Rattle.cpl_plan.specs.declared.parts.PlanParts.{PlanParts}
use Rattle.cpl_plan.specs.declared.parts.Exchange.{Exchange}
use Rattle.cpl_plan.specs.declared.parts.Scheme.{Scheme}
use Rattle.cpl_plan.specs.declared.parts.SchemeKind.{SchemeKind}
use Rattle.cpl_plan.specs.declared.parts.SchemeKind.TheVariants.{SerialExplicit, ParallelExplicit, SerialImplicit, ParallelImplicit, Multi}
use Rattle.cpl_plan.specs.declared.parts.Kind.{Kind}
use Rattle.cpl_plan.specs.declared.parts.Kind.TheVariants.{Lag, Fresh, FreshIter, Iterated}
use Rattle.cpl_plan.specs.declared.words.Fault.{Fault}
use Rattle.cpl_plan.specs.declared.words.Item.TheVariants.{Completed, Posted}
use Rattle.coupled_loop.specs.CoreState.{taking, look_in, turn_at}
use Rattle.coupled_loop.specs.CoreStep.{waits_for}
use Rattle.coupled_loop.specs.Endings.{Judgement, again, converged, at_limit, refused}
use Rattle.coupled_loop.specs.Given.{Gift, found}
use Rattle.coupled_loop.specs.PlanFrames.{group_of}
use Rattle.coupled_loop.specs.Settled.{AreNeedsGiven, IsProvided}
use Rattle.core_laws.proofs.GoodMoves.{among_members}
use Rattle.core_laws.proofs.PlanPlaces.{declared, group_is}
use Rattle.core_laws.proofs.PlanSound.{plan_sound}
use Rattle.core_laws.proofs.Well.{HasPostedBefore, IsBefore}
use Rattle.sample_store.proofs.Mapped.{found_part}
use Rattle.sample_store.specs.Held.{HoldsIterate}
use Rattle.sample_store.specs.Kept.{Kept as StoreKept}
use Rattle.sample_store.specs.StandsFor.{StandsFor as StoreStandsFor}
use Rattle.wave_coupling.specs.Posts.{Wave, wave_of}
use Rattle.wave_coupling.specs.Coupling.{exchanged, judge_of, start_of, wave_frame}
use Rattle.wave_laws.proofs.Senders.{IsExchange, is_exchange, given_for, completed_before, reader_group, sender_in, IsGivenFor}
use Rattle.group_course.specs.CourseTells.{CourseTells}
use Rattle.group_course.specs.StoresTell.{StoreTells}
use Rattle.core_sides.specs.CoreWords.{WaveState, WaveEntry}
use Rattle.core_sides.specs.Reached.{IsReached}
use Rattle.core_stores.specs.StoresStand.{gifts_of, IsStoreOf, AreStores}
use Rattle.core_stores.proofs.HeldEnds.{is_given_same, held_end}
use Rattle.core_stores.proofs.HeldPosts.{held_post}
use Rattle.core_stores.proofs.HeldAccepted.{held_accepted}
use Rattle.core_schemes.specs.SchemesStand.{IsLastJudged, IsNextTurn, IsSchemeOf, AreSchemes}
use Rattle.core_schemes.specs.declared.schemes.LastJudged.{LastJudged}
use Rattle.core_schemes.specs.declared.schemes.SchemeState.{SchemeState}
use Rattle.core_fits.specs.VerticesIn.{vertices_in}
use Rattle.core_fits.proofs.Turns.{reached_so, stands_at, taking_provided}
use Rattle.core_fits.proofs.FreshAccepted.{fresh_accepted}
use Rattle.core_fits.proofs.ReachedFits.{reached_fits}
use Rattle.core_takes.specs.Held.{HoldsSamples, IsHeld}
use Rattle.core_takes.specs.Ready.{Tells, IsReady}
use Rattle.core_takes.specs.declared.takes.TakeTurn.{TakeTurn}

fresh_iter_implicit : (kind : SchemeKind) (second : Bool) → exchange_kind kind second ≡ FreshIter → is_implicit kind ≡ true
fresh_iter_implicit SerialExplicit true is = cc
fresh_iter_implicit SerialExplicit false is = cc
fresh_iter_implicit ParallelExplicit second is = cc
fresh_iter_implicit SerialImplicit second is = refl
fresh_iter_implicit ParallelImplicit second is = refl
fresh_iter_implicit Multi second is = refl

iterated_implicit : (kind : SchemeKind) (second : Bool) → exchange_kind kind second ≡ Iterated → is_implicit kind ≡ true
iterated_implicit SerialExplicit true is = cc
iterated_implicit SerialExplicit false is = cc
iterated_implicit ParallelExplicit second is = cc
iterated_implicit SerialImplicit second is = refl
iterated_implicit ParallelImplicit second is = refl
iterated_implicit Multi second is = refl

module _ (plan : PlanParts) (valid : IsValidPlan plan) (history : List WaveEntry) (sides : WaveState) (reached : IsReached plan history sides)
    (stores : List (Option StoreKept)) (stored : AreStores plan stores sides) (schemes : List SchemeState) (judged : AreSchemes plan schemes sides)
    (turn : TakeTurn) (start : turn.start ≡ start_of plan (look_in sides) turn.window) (below : turn.part < length plan.parts)
    (at : (sides turn.part).place ≡ taking turn.window turn.iteration)
    (there : IsTrue ((wave_frame plan).is_there (look_in sides) turn.window)) (none : waits_for (wave_frame plan) sides turn.part ≡ None) where
  provided : IsProvided (wave_frame plan) (look_in sides) turn.part turn.window turn.iteration
  provided = taking_provided plan valid history sides reached turn.part turn.window turn.iteration at there none

  stands : IsBefore (wave_frame plan) (look_in sides) turn.part turn.window turn.iteration × HasPostedBefore (wave_frame plan) (look_in sides) turn.part turn.window turn.iteration
  stands = stands_at plan valid history sides reached turn.part (taking turn.window turn.iteration) at

  -- what is given of an exchange is what its sender has given
  store_tells : (x : ℕ) (e : Exchange) (store : StoreKept) → StoreStandsFor (gifts_of plan e x (sides e.from).given) store → StoreTells plan (look_in sides) x e store
  store_tells x e store is = record {
    given = gifts_of plan e x (sides e.from).given;
    stands = is;
    tells = λ item. found_part (wave_of plan e x) (sides e.from).given item;
  }

  -- a member that repeats a window has been told to
  module _ (number : ℕ) (scheme : Scheme) (state : SchemeState) (grouped : group_of plan turn.part ≡ Some number) (more : 2 ≤ turn.iteration) where
    repeated_by : (last : LastJudged) (judgement : Judgement Fault) → judge_of plan (look_in sides) number last.window last.iteration ≡ judgement
        → (judge_of plan (look_in sides) number last.window last.iteration ≡ again
        → CourseTells plan (look_in sides) scheme last.window (start_of plan (look_in sides) last.window) last.iteration state.course)
        → IsNextTurn judgement last.window last.iteration (turn.window, turn.iteration)
        → CourseTells plan (look_in sides) scheme turn.window turn.start (turn.iteration - 1) state.course
    repeated_by last again is repeats next =
        let window : turn.window ≡ last.window = ap (λ (t : ℕ × ℕ). t.0) next in
        let iteration : turn.iteration ≡ last.iteration + 1 = ap (λ (t : ℕ × ℕ). t.1) next in
        let before : last.iteration ≡ turn.iteration - 1 = omega (arith, iteration) in
        subst (λ (t : ℕ). CourseTells plan (look_in sides) scheme turn.window t (turn.iteration - 1) state.course) (sym start)
        (subst (λ (k : ℕ). CourseTells plan (look_in sides) scheme turn.window (start_of plan (look_in sides) turn.window) k state.course) before
        (subst (λ (w : ℕ). CourseTells plan (look_in sides) scheme w (start_of plan (look_in sides) w) last.iteration state.course) (sym window) (repeats is)))
    repeated_by last converged is repeats next =
        let first : turn.iteration ≡ 1 = ap (λ (t : ℕ × ℕ). t.1) next in absurd (omega (arith, first, more))
    repeated_by last at_limit is repeats next =
        let first : turn.iteration ≡ 1 = ap (λ (t : ℕ × ℕ). t.1) next in absurd (omega (arith, first, more))
    repeated_by last (refused fault) is repeats next = absurd next

    -- it has not posted the turn, which so is not judged yet
    not_judged : (last : LastJudged) → IsLastJudged plan sides number scheme state last → ◌≡◌ {A = ℕ × ℕ} (turn.window, turn.iteration) (last.window, last.iteration) → ⊥
    not_judged last is same =
        let window : last.window ≡ turn.window = ap (λ (t : ℕ × ℕ). t.0) (sym same) in
        let iteration : last.iteration ≡ turn.iteration = ap (λ (t : ℕ × ℕ). t.1) (sym same) in
        let posted : IsSome (look_in sides turn.part (Posted last.window last.iteration)) =
        is.posted turn.part last.iteration (among_members (wave_frame plan) (plan_sound plan (exchanged plan) valid) turn.part number below grouped) is.iteration (omega arith) in
        elim (stands.1 last.window last.iteration posted) [
          | inl less ↦ omega (arith, less, window)
          | inr own ↦ let earlier = own.1 in omega (arith, earlier, iteration)
        ]

    here : ◌≡◌ {A = ℕ × ℕ} (turn_at (sides turn.part).place) (turn.window, turn.iteration)
    here = ap turn_at at

    repeated_of : (last : Option LastJudged) → IsSchemeOf plan sides number scheme state last
        → CourseTells plan (look_in sides) scheme turn.window turn.start (turn.iteration - 1) state.course
    repeated_of None are = elim (are turn.part below grouped) [
      | inl opening ↦ let first : turn.iteration ≡ 0 = ap (λ (t : ℕ × ℕ). t.1) (sym here ∙ opening) in absurd (omega (arith, first, more))
      | inr one ↦ let first : turn.iteration ≡ 1 = ap (λ (t : ℕ × ℕ). t.1) (sym here ∙ one) in absurd (omega (arith, first, more))
    ]
    repeated_of (Some last) is = elim (is.members turn.part below grouped) [
      | inl same ↦ absurd (not_judged last is (sym here ∙ same))
      | inr next ↦
          repeated_by last (judge_of plan (look_in sides) number last.window last.iteration) refl is.repeats
          (subst (λ (t : ℕ × ℕ). IsNextTurn (judge_of plan (look_in sides) number last.window last.iteration) last.window last.iteration t) here next)
    ]

  -- what is kept tells what was given
  turn_told : Tells plan stores schemes turn (look_in sides)
  turn_told = record {
    start = start;
    posts = λ x e store stored_at reader kept. store_tells x e store (stored.each x e (Some store) stored_at kept);
    repeated = λ x e scheme state stored_at reader kind more scheme_at state_at.
        repeated_of e.scheme scheme state
        (subst (λ (p : ℕ). group_of plan p ≡ Some e.scheme) reader (reader_group plan valid e (is_exchange plan valid x e stored_at) kind)) more state.last
        (judged.each e.scheme scheme state scheme_at state_at);
  }

  -- of each exchange that is received the store holds what is read
  module _ (x : ℕ) (e : Exchange) (exchange_at : slice_get plan.exchanges x ≡ Some e) (reader : e.to ≡ turn.part) where
    exchange : IsExchange plan e
    exchange = is_exchange plan valid x e exchange_at

    sender_below : e.from < length plan.parts
    sender_below = declared plan valid e.scheme e.from exchange.scheme exchange.stands exchange.sender

    needed : AreNeedsGiven (wave_frame plan) (look_in sides) e.to turn.window turn.iteration
    needed = subst (λ (p : ℕ). AreNeedsGiven (wave_frame plan) (look_in sides) p turn.window turn.iteration) (sym reader) provided.needed

    window_number : 1 ≤ turn.window
    window_number = stands.0.window

    reader_at : (sides e.to).place ≡ taking turn.window turn.iteration
    reader_at = subst (λ (p : ℕ). (sides p).place ≡ taking turn.window turn.iteration) (sym reader) at

    unfinished : IsSome (look_in sides e.to (Completed turn.window)) → ⊥
    unfinished some =
        let less = stands.0.uncompleted turn.window (subst (λ (p : ℕ). IsSome (look_in sides p (Completed turn.window))) reader some) in
        omega (arith, less)

    both_in : is_implicit exchange.scheme.kind ≡ true → (group_of plan turn.part ≡ Some e.scheme) × (group_of plan e.from ≡ Some e.scheme)
    both_in implicit = (
      group_is plan valid e.scheme turn.part exchange.scheme exchange.stands implicit (subst (λ (p : ℕ). Contains exchange.scheme.members p) reader exchange.reader),
      group_is plan valid e.scheme e.from exchange.scheme exchange.stands implicit exchange.sender,
    )

    module _ (store : StoreKept) (is : StoreStandsFor (gifts_of plan e x (sides e.from).given) store) where
      post_held : is_implicit exchange.scheme.kind ≡ true → (i : ℕ) → 1 ≤ i → turn.iteration ≤ i + 1 → IsSome (look_in sides e.from (Posted turn.window i))
          → HoldsIterate store.progress turn.window i
      post_held implicit i some near posted =
          let groups = both_in implicit in
          held_post (wave_frame plan) (plan_sound plan (exchanged plan) valid) sides (reached_so plan valid history sides reached) e.scheme turn.part e.from below sender_below groups.0 groups.1
          turn.window turn.iteration window_number provided.iteration (ap turn_at at) stands.1 (gifts_of plan e x (sides e.from).given) store.progress is.order
          (is_given_same plan e x (sides e.from).given) i some near posted

      samples_held : (kind : Kind) → e.kind ≡ kind → HoldsSamples kind store.progress turn.window turn.iteration
      samples_held Lag same = tt
      samples_held Fresh same =
          let fresh = fresh_accepted plan valid history sides reached x turn.window turn.iteration e exchange_at same reader_at there
          (subst (λ (p : ℕ). waits_for (wave_frame plan) sides p ≡ None) (sym reader) none) in
          held_accepted plan sides x turn.window e store is fresh.accepted fresh.unposted
      samples_held FreshIter same =
          post_held (fresh_iter_implicit exchange.scheme.kind (is_second exchange.scheme e.to) (sym exchange.kind ∙ same)) turn.iteration provided.iteration (omega arith)
          (posted_for same)
        where
          posted_for : e.kind ≡ FreshIter → IsSome (look_in sides e.from (Posted turn.window turn.iteration))
          posted_for same = subst (λ (kind : Kind). IsGivenFor kind (look_in sides) e.from turn.window turn.iteration) same
              (given_for plan valid (look_in sides) e turn.window turn.iteration exchange needed)
      samples_held Iterated same =
          let implicit = iterated_implicit exchange.scheme.kind (is_second exchange.scheme e.to) (sym exchange.kind ∙ same) in
          λ more. post_held implicit (turn.iteration - 1) (omega (arith, more)) (omega (arith, more))
          (provided.group e.scheme (both_in implicit).0 e.from (turn.iteration - 1) (sender_in plan valid e e.scheme exchange refl) (omega (arith, more)) (omega (arith, more)))

      store_held : slice_get stores x ≡ Some (Some store) → IsHeld stores x e.kind turn.window turn.iteration
      store_held kept = record {
        store = store;
        there = kept;
        holds = record {
          before = held_end plan valid sides (reached_so plan valid history sides reached) x turn.window turn.iteration e store exchange_at sender_below window_number needed unfinished is;
          samples = samples_held e.kind refl;
        };
      }

    -- there is one, since its sender has given something
    given_before : IsSome (look_in sides e.from (Completed (turn.window - 1)))
    given_before =
        completed_before (look_in sides) (reached_so plan valid history sides reached).well.in_order e.kind e.from turn.window turn.iteration window_number
        (given_for plan valid (look_in sides) e turn.window turn.iteration exchange needed)

    not_empty : gifts_of plan e x (sides e.from).given ≡ [] → ⊥
    not_empty empty =
        let none : is_some (found (gifts_of plan e x (sides e.from).given) (Completed (turn.window - 1))) ≡ false =
        ap (λ (given : List (Gift Wave)). is_some (found given (Completed (turn.window - 1)))) empty in
        false≢true (sym none ∙ is_given_same plan e x (sides e.from).given (Completed (turn.window - 1)) ∙ given_before)

    held_by : (o : Option StoreKept) → slice_get stores x ≡ Some o → IsStoreOf (gifts_of plan e x (sides e.from).given) o → IsHeld stores x e.kind turn.window turn.iteration
    held_by None kept empty = absurd (not_empty empty)
    held_by (Some store) kept is = store_held store is kept

    held : IsHeld stores x e.kind turn.window turn.iteration
    held =
        let inside : x < length stores = omega (arith, slice_get_within plan.exchanges x e exchange_at, stored.count) in
        let kept = slice_get-get_or stores x None inside in
        held_by _ kept (stored.each x e _ exchange_at kept)

  turn_ready : IsReady plan stores schemes turn
  turn_ready = record {
    look = look_in sides;
    tells = turn_told;
    iteration = provided.iteration;
    count = judged.count;
    held = λ x e exchange_at reader. held x e exchange_at reader;
    vertices = vertices_in plan sides;
    fits = reached_fits plan valid history sides reached;
  }

-- the same of a turn by its numbers
module _ (plan : PlanParts) (valid : IsValidPlan plan) (history : List WaveEntry) (sides : WaveState) (reached : IsReached plan history sides)
    (stores : List (Option StoreKept)) (stored : AreStores plan stores sides) (schemes : List SchemeState) (judged : AreSchemes plan schemes sides)
    (p w k : ℕ) (below : p < length plan.parts) (at : (sides p).place ≡ taking w k)
    (there : IsTrue ((wave_frame plan).is_there (look_in sides) w)) (none : waits_for (wave_frame plan) sides p ≡ None) where
  pub taking_is_ready : IsReady plan stores schemes (record { part = p; window = w; iteration = k; start = start_of plan (look_in sides) w })
  taking_is_ready =
      turn_ready plan valid history sides reached stores stored schemes judged (record { part = p; window = w; iteration = k; start = start_of plan (look_in sides) w }) refl below at there none

  pub taking_tells : Tells plan stores schemes (record { part = p; window = w; iteration = k; start = start_of plan (look_in sides) w }) (look_in sides)
  taking_tells =
      turn_told plan valid history sides reached stores stored schemes judged (record { part = p; window = w; iteration = k; start = start_of plan (look_in sides) w }) refl below at there none
