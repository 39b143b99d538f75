-- What is posted in a turn is what the look at the end of a history has for it.
use Rattle.std.proofs.Common.{◌≡◌, ℕ, ◌<◌, ◌⊎◌, inl, inr, List, [], ◌∷◌, Option, Some, None, IsSome, refl, ap, subst, ◌∙◌, arith}
use Rattle.coupled_loop.specs.Numbered.{put}
use Rattle.std.specs.Option.{option_or}
use Rattle.cpl_plan.specs.declared.words.Item.{Item}
use Rattle.cpl_plan.specs.declared.words.Item.TheVariants.{Completed, Posted}
use Rattle.coupled_loop.specs.Given.{Gift, Look, found, gives}
use Rattle.coupled_loop.specs.Frames.{Frame}
use Rattle.coupled_loop.specs.CoreState.{Place, opening, within, Side, CoreState, look_in}
use Rattle.coupled_loop.specs.CoreStep.{after_post}
use Rattle.coupled_loop.specs.Settled.{Extends}
use Rattle.core_laws.proofs.Well.{IsWell, Stands, HasPostedBefore}
use Rattle.core_laws.proofs.Puts.{put_same}
use Rattle.core_laws.proofs.Looks.{found_joined, found_stays, found_itself}

module _ {Post : Type 0} where
  none_or : (o : Option (Gift Post)) → (IsSome o → ⊥) → o ≡ None
  none_or None h = refl
  none_or (Some gift) h = absurd (h refl)

  -- what was not given is found as it is given first
  pub gives_found : (item : Item) (k : ℕ) (post : Post) (given : List (Gift Post)) → (IsSome (found given item) → ⊥)
      → found (gives item k post given) item ≡ Some (record { item = item; iteration = k; post = post })
  gives_found item k post given fresh =
      let gift : Gift Post = record { item = item; iteration = k; post = post } in
      found_joined given (gift ∷ []) item
      ∙ (ap (λ (o : Option (Gift Post)). option_or o (found (gift ∷ []) item)) (none_or (found given item) fresh) ∙ found_itself gift)

module _ {Mesh Post Inputs Fault : Type 0} (frame : Frame Post Inputs Fault) (sides : CoreState Mesh Post Fault) (look : Look Post) (part : ℕ) where
  look_put : (side : Side Mesh Post Fault) (item : Item) → look_in (put sides part side) part item ≡ found side.given item
  look_put side item = ap (λ (s : Side Mesh Post Fault). found s.given item) (put_same sides part side)

  pub given_later : (side : Side Mesh Post Fault) (item : Item) (gift : Gift Post) → Extends (look_in (put sides part side)) look → found side.given item ≡ Some gift → look part item ≡ Some gift
  given_later side item gift extends is = extends part item gift (look_put side item ∙ is)

  after_post_found : (group : Option ℕ) (w k : ℕ) (post : Post) → (IsSome (found (sides part).given (Posted w k)) → ⊥)
      → found (after_post group w k post (sides part)).given (Posted w k) ≡ Some (record { item = Posted w k; iteration = k; post = post })
  after_post_found None w k post fresh = found_stays (gives (Posted w k) k post (sides part).given) _ (Posted w k) _ (gives_found (Posted w k) k post (sides part).given fresh)
  after_post_found (Some scheme) w k post fresh = gives_found (Posted w k) k post (sides part).given fresh

  -- the post of a turn
  pub turn_post : (w k : ℕ) (post : Post) → IsWell frame sides → (sides part).place ≡ within w k
      → Extends (look_in (put sides part (after_post (frame.group part) w k post (sides part)))) look
      → look part (Posted w k) ≡ Some (record { item = Posted w k; iteration = k; post = post })
  turn_post w k post well at extends =
      let stands = subst (λ (place : Place). Stands frame (look_in sides) part place (sides part).given) at (well.stands part) in
      given_later (after_post (frame.group part) w k post (sides part)) (Posted w k) _ extends
      (after_post_found (frame.group part) w k post (fresh stands.2))
    where
      fresh : HasPostedBefore frame (look_in sides) part w k → IsSome (found (sides part).given (Posted w k)) → ⊥
      fresh before is = by (before w k is)
        where
          by : (w < w) ⊎ ((w ≡ w) × (k < k)) → ⊥
          by (inl less) = omega (arith, less)
          by (inr (same, less)) = omega (arith, less)

  -- the initial one
  pub first_post : (post : Post) (side : Side Mesh Post Fault) → IsWell frame sides → (sides part).place ≡ opening → side.given ≡ gives (Completed 0) 0 post (sides part).given
      → Extends (look_in (put sides part side)) look
      → look part (Completed 0) ≡ Some (record { item = Completed 0; iteration = 0; post = post })
  first_post post side well at is extends =
      let none : (sides part).given ≡ [] = subst (λ (place : Place). Stands frame (look_in sides) part place (sides part).given) at (well.stands part) in
      given_later side (Completed 0) _ extends
      (ap (λ (g : List (Gift Post)). found g (Completed 0)) (is ∙ ap (λ (g : List (Gift Post)). gives (Completed 0) 0 post g) none))
