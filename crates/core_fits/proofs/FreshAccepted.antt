-- Whose window is read as it was just completed has given nothing since.
use Rattle.std.proofs.Common.{◌≡◌, ℕ, suc, ◌-◌, ◌<◌, ◌≤◌, inl, inr, List, [], length, slice_get, Some, None, IsTrue, IsSome, refl, sym, ap, subst, arith}
use Rattle.cpl_plan.specs.ValidPlan.{IsValidPlan}
use Rattle.cpl_plan.specs.declared.parts.PlanParts.{PlanParts}
use Rattle.cpl_plan.specs.declared.parts.Exchange.{Exchange}
use Rattle.cpl_plan.specs.declared.parts.Kind.{Kind}
use Rattle.cpl_plan.specs.declared.parts.Kind.TheVariants.{Fresh}
use Rattle.cpl_plan.specs.declared.words.Item.{Item}
use Rattle.cpl_plan.specs.declared.words.Item.TheVariants.{Completed, Posted}
use Rattle.coupled_loop.specs.Given.{Gift, found}
use Rattle.coupled_loop.specs.CoreState.{Place, sending, collecting, opening, taking, within, judging, look_in, turn_at}
use Rattle.coupled_loop.specs.CoreStep.{waits_for}
use Rattle.coupled_loop.specs.Settled.{AreNeedsGiven}
use Rattle.core_laws.proofs.PlanPlaces.{declared}
use Rattle.core_laws.proofs.Well.{Stands}
use Rattle.wave_coupling.specs.Posts.{Post}
use Rattle.wave_coupling.specs.Coupling.{wave_frame}
use Rattle.wave_laws.proofs.Senders.{IsExchange, IsGivenFor, is_exchange, given_for}
use Rattle.core_sides.specs.CoreWords.{WaveState, WaveEntry}
use Rattle.core_sides.specs.Reached.{IsReached}
use Rattle.core_sides.proofs.Apart.{partner_before, never_ahead}
use Rattle.core_sides.proofs.PlaceTells.{completed_before}
use Rattle.core_fits.specs.Newest.{IsNewestAccepted}
use Rattle.core_fits.proofs.Turns.{reached_so, reached_in_order, stands_at, taking_provided}

module _ (plan : PlanParts) (valid : IsValidPlan plan) (history : List WaveEntry) (sides : WaveState) (reached : IsReached plan history sides) where
  nothing_given : (part : ℕ) (item : Item) → (sides part).given ≡ [] → IsSome (look_in sides part item) → ⊥
  nothing_given part item empty is =
      let never : IsSome (found {Post = Post} [] item) = subst (λ (given : List (Gift Post)). IsSome (found given item)) empty is in cc

  -- who has posted for a window, and has not completed it, was given what it needs for it
  pub posted_served : (part v j : ℕ) → part < length plan.parts → (IsSome (look_in sides part (Completed v)) → ⊥) → IsSome (look_in sides part (Posted v j))
      → (i : ℕ) × AreNeedsGiven (wave_frame plan) (look_in sides) part v i
  posted_served part v j below unfinished posted = by (sides part).place refl ((reached_so plan valid history sides reached).well.stands part)
    where
      first : 1 ≤ j
      first = ((reached_in_order plan valid history sides reached).turns part v j posted).1

      not_past : (u : ℕ) → IsSome (look_in sides part (Completed (u - 1))) → v < u → ⊥
      not_past u completed past =
          unfinished (completed_before (wave_frame plan) (look_in sides) (reached_in_order plan valid history sides reached) part (u - 1) completed v (omega (arith, past)))

      by : (place : Place) → (sides part).place ≡ place → Stands (wave_frame plan) (look_in sides) part place (sides part).given
          → (i : ℕ) × AreNeedsGiven (wave_frame plan) (look_in sides) part v i
      by sending at stands = absurd (nothing_given part (Posted v j) stands posted)
      by collecting at stands = absurd (nothing_given part (Posted v j) stands posted)
      by opening at stands = absurd (nothing_given part (Posted v j) stands posted)
      by (taking u i) at stands = elim (stands.1 v j posted) [
        | inl past ↦ absurd (not_past u stands.0.completed past)
        | inr own ↦
            let served = ((reached_so plan valid history sides reached).aligned.each part below).turned u i (ap turn_at at) (let less = own.1 in omega (arith, first, less)) in
            (served.0, subst (λ (n : ℕ). AreNeedsGiven (wave_frame plan) (look_in sides) part n served.0) (sym own.0) served.1)
      ]
      by (within u i) at stands = elim (stands.2 v j posted) [
        | inl past ↦ absurd (not_past u stands.0.completed past)
        | inr own ↦ (i, subst (λ (n : ℕ). AreNeedsGiven (wave_frame plan) (look_in sides) part n i) (sym own.0) stands.1.needed)
      ]
      by (judging scheme u i) at stands = elim (stands.4 v j posted) [
        | inl past ↦ absurd (not_past u stands.1.completed past)
        | inr own ↦ (i, subst (λ (n : ℕ). AreNeedsGiven (wave_frame plan) (look_in sides) part n i) (sym own.0) stands.2.needed)
      ]

  -- the sender of a fresh exchange, when its reader takes its inputs
  module _ (x w k : ℕ) (e : Exchange) (stands : slice_get plan.exchanges x ≡ Some e) (fresh : e.kind ≡ Fresh) (at : (sides e.to).place ≡ taking w k)
      (there : IsTrue ((wave_frame plan).is_there (look_in sides) w)) (none : waits_for (wave_frame plan) sides e.to ≡ None) where
    exchange : IsExchange plan e
    exchange = is_exchange plan valid x e stands

    sender_below : e.from < length plan.parts
    sender_below = declared plan valid e.scheme e.from exchange.scheme exchange.stands exchange.sender

    -- the reader has not completed the window
    unread : IsSome (look_in sides e.to (Completed w)) → ⊥
    unread some = let less = (stands_at plan valid history sides reached e.to (taking w k) at).0.uncompleted w some in omega (arith, less)

    never_completed : (v : ℕ) → w < v → IsSome (look_in sides e.from (Completed v)) → ⊥
    never_completed v more some =
        unread (never_ahead plan valid e.scheme exchange.scheme exchange.stands e.to e.from exchange.reader exchange.sender exchange.apart sender_below sides
        (reached_so plan valid history sides reached) w
        (completed_before (wave_frame plan) (look_in sides) (reached_in_order plan valid history sides reached) e.from v some (suc w) (omega (arith, more))))

    never_posted : (v j : ℕ) → w < v → IsSome (look_in sides e.from (Posted v j)) → ⊥
    never_posted v j more some =
        let served = posted_served e.from v j sender_below (never_completed v more) some in
        let before = partner_before plan valid e.scheme exchange.scheme exchange.stands e.from e.to exchange.sender exchange.reader (λ same. exchange.apart (sym same))
        (look_in sides) v served.0 (reached_in_order plan valid history sides reached) served.1 in
        unread (completed_before (wave_frame plan) (look_in sides) (reached_in_order plan valid history sides reached) e.to (v - 1) before w (omega (arith, more)))

    pub fresh_accepted : IsNewestAccepted (look_in sides) e.from w
    fresh_accepted = record {
      accepted =
          subst (λ (kind : Kind). IsGivenFor kind (look_in sides) e.from w k) fresh
          (given_for plan valid (look_in sides) e w k exchange (taking_provided plan valid history sides reached e.to w k at there none).needed);
      uncompleted = never_completed;
      unposted = never_posted;
    }
