-- Who has posted a turn stands at it or after it, and where it stands at it, it has posted nothing later.
use Rattle.std.proofs.Common.{◌≡◌, ℕ, suc, ◌<◌, ◌≤◌, ◌⊎◌, inl, inr, List, [], IsSome, ap, subst, arith}
use Rattle.cpl_plan.specs.declared.words.Item.{Item}
use Rattle.cpl_plan.specs.declared.words.Item.TheVariants.{Posted}
use Rattle.coupled_loop.specs.Given.{Gift, found}
use Rattle.coupled_loop.specs.Frames.{Frame}
use Rattle.coupled_loop.specs.CoreState.{Place, sending, collecting, opening, taking, within, judging, CoreState, look_in, turn_at}
use Rattle.core_laws.proofs.Well.{HasPostedBefore, IsBefore, Stands}

-- a turn does not come after another
abbrev pub IsUpTo : (v j : ℕ) → ℕ × ℕ → Type 0
IsUpTo v j turn = (v < turn.0) ⊎ ((v ≡ turn.0) × (j ≤ turn.1))

module _ {Mesh Post Inputs Fault : Type 0} (frame : Frame Post Inputs Fault) (sides : CoreState Mesh Post Fault) (part : ℕ) where
  nothing : (item : Item) → (sides part).given ≡ [] → IsSome (look_in sides part item) → ⊥
  nothing item empty is = let never : IsSome (found {Post = Post} [] item) = subst (λ (list : List (Gift Post)). IsSome (found list item)) empty is in cc

  up_to : (v j w k : ℕ) → (v < w) ⊎ ((v ≡ w) × (j < suc k)) → IsUpTo v j (w, k)
  up_to v j w k (inl less) = inl less
  up_to v j w k (inr own) = inr (own.0, omega (arith, own.1))

  sooner : (v j w k : ℕ) → (v < w) ⊎ ((v ≡ w) × (j < k)) → (v < w) ⊎ ((v ≡ w) × (j < suc k))
  sooner v j w k (inl less) = inl less
  sooner v j w k (inr own) = inr (own.0, omega (arith, own.1))

  pub posted_up_to_turn : (v j : ℕ) → IsSome (look_in sides part (Posted v j)) → (place : Place) → Stands frame (look_in sides) part place (sides part).given → IsUpTo v j (turn_at place)
  posted_up_to_turn v j is sending stands = absurd (nothing (Posted v j) stands is)
  posted_up_to_turn v j is collecting stands = absurd (nothing (Posted v j) stands is)
  posted_up_to_turn v j is opening stands = absurd (nothing (Posted v j) stands is)
  posted_up_to_turn v j is (taking w k) stands = up_to v j w k (sooner v j w k (stands.1 v j is))
  posted_up_to_turn v j is (within w k) stands = up_to v j w k (sooner v j w k (stands.2 v j is))
  posted_up_to_turn v j is (judging scheme w k) stands = up_to v j w k (stands.4 v j is)

  unposted : (v j w k : ℕ) → ◌≡◌ {A = ℕ × ℕ} (v, j) (w, k) → HasPostedBefore frame (look_in sides) part v j → IsSome (look_in sides part (Posted w k)) → ⊥
  unposted v j w k same before is =
      let window : v ≡ w = ap (λ (t : ℕ × ℕ). t.0) same in
      let iteration : j ≡ k = ap (λ (t : ℕ × ℕ). t.1) same in
      elim (before w k is) [ inl less ↦ omega (arith, less, window) | inr own ↦ omega (arith, own.1, iteration) ]

  -- where it stands at a turn that it has posted
  pub posted_here : (w k : ℕ) → IsSome (look_in sides part (Posted w k)) → (place : Place) → Stands frame (look_in sides) part place (sides part).given → turn_at place ≡ (w, k)
      → IsBefore frame (look_in sides) part w k × HasPostedBefore frame (look_in sides) part w (suc k)
  posted_here w k is sending stands at = absurd (nothing (Posted w k) stands is)
  posted_here w k is collecting stands at = absurd (nothing (Posted w k) stands is)
  posted_here w k is opening stands at = absurd (nothing (Posted w k) stands is)
  posted_here w k is (taking v j) stands at = absurd (unposted v j w k at stands.1 is)
  posted_here w k is (within v j) stands at = absurd (unposted v j w k at stands.2 is)
  posted_here w k is (judging scheme v j) stands at =
      subst (λ (t : ℕ × ℕ). IsBefore frame (look_in sides) part t.0 t.1 × HasPostedBefore frame (look_in sides) part t.0 (suc t.1)) at (stands.1, stands.4)
