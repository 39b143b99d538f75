-- What was posted, what is accepted and what relaxation makes of them are the same once they are given.
use Rattle.std.proofs.Common.{◌≡◌, ℕ, zero, suc, ◌-◌, ◌≤◌, List, [], ◌++◌, map, nat_eq, slice_get, slice_index_or, position, Option, Some, None, Result, Ok, Err, IsSome, refl, ap, sym, ◌∙◌, arith, Contains}
use Rattle.std.specs.Option.{option_map_or}
use Rattle.cpl_plan.specs.ValidPlan.{IsValidPlan}
use Rattle.cpl_plan.specs.declared.parts.PlanParts.{PlanParts}
use Rattle.cpl_plan.specs.declared.parts.Exchange.{Exchange}
use Rattle.cpl_plan.specs.declared.parts.Scheme.{Scheme}
use Rattle.cpl_plan.specs.declared.words.Item.{Item}
use Rattle.cpl_plan.specs.declared.words.Item.TheVariants.{Completed, Posted}
use Rattle.acceleration.specs.Exchanged.{Exchanged, exchange_of as accelerated_as}
use Rattle.acceleration.specs.Outside.{Location}
use Rattle.acceleration.specs.RelaxedIterate.{Iterate, relaxed_iterate}
use Rattle.coupled_loop.specs.Given.{Gift, Look}
use Rattle.coupled_loop.specs.Settled.{Extends, IsInOrder, HavePostedBelow}
use Rattle.wave_coupling.specs.Posts.{Wave, Post, at_time}
use Rattle.wave_coupling.specs.InputWave.{Sent, Relaxed, sent_as, completed, posted, accepted_before, exchange_of, accelerated, over, relaxed_next, relaxed_after}
use Rattle.wave_coupling.specs.Coupling.{wave_frame}
use Rattle.wave_laws.proofs.Stills.{given_still, map_same}
use Rattle.wave_laws.proofs.Senders.{is_exchange, sender_in, accelerated_scheme}

module _ (plan : PlanParts) (f g : Look Post) where
  sent_alike : (e : Exchange) (x : ℕ) (o : Option (Gift Post)) → sent_as plan f e x o ≡ sent_as plan g e x o
  sent_alike e x None = refl
  sent_alike e x (Some gift) = refl

  next_alike : (before : Relaxed) (result : Result Iterate Location) → relaxed_next plan f before result ≡ relaxed_next plan g before result
  next_alike before (Ok iterate) = refl
  next_alike before (Err location) = refl

  module _ (extends : Extends f g) where
    sent_same : (e : Exchange) (x : ℕ) (item : Item) → IsSome (f e.from item) → sent_as plan f e x (f e.from item) ≡ sent_as plan g e x (g e.from item)
    sent_same e x item is = ap (λ o. sent_as plan f e x o) (given_still f g e.from item extends is) ∙ sent_alike e x (g e.from item)

    pub completed_same : (e : Exchange) (x w : ℕ) → IsSome (f e.from (Completed w)) → completed plan f e x w ≡ completed plan g e x w
    completed_same e x w is = sent_same e x (Completed w) is

    pub posted_same : (e : Exchange) (x w k : ℕ) → IsSome (f e.from (Posted w k)) → posted plan f e x w k ≡ posted plan g e x w k
    posted_same e x w k is = sent_same e x (Posted w k) is

    pub accepted_same : (e : Exchange) (x w start : ℕ) → IsSome (f e.from (Completed (w - 1)))
        → accepted_before plan f e x w start ≡ accepted_before plan g e x w start
    accepted_same e x w start is = ap (λ (s : Sent). at_time start s.wave) (completed_same e x (w - 1) is)

    accelerated_same : (w start k : ℕ) (before : Wave) (x : ℕ) (e : Exchange) → IsSome (f e.from (Completed (w - 1))) → IsSome (f e.from (Posted w k))
        → accelerated plan f w start k before x (Some e) ≡ accelerated plan g w start k before x (Some e)
    accelerated_same w start k before x e done is =
        ap (λ (wave : Wave). accelerated_as (option_map_or (λ d. d.degree) (slice_get plan.data_list e.data_id) 0) (wave ++ before) (posted plan f e x w k).wave)
        (accepted_same e x w start done)
        ∙ ap (λ (s : Sent). accelerated_as (option_map_or (λ d. d.degree) (slice_get plan.data_list e.data_id) 0) (accepted_before plan g e x w start ++ before) s.wave)
        (posted_same e x w k is)

    module _ (valid : IsValidPlan plan) (order : IsInOrder f) (number : ℕ) (scheme : Scheme) (stands : slice_get plan.schemes number ≡ Some scheme) (w start : ℕ) where
      -- the waves of the accelerated exchanges before an iteration
      abbrev before_of : Relaxed → ℕ → Wave
      before_of before x = option_map_or (λ place. slice_index_or before.waves place []) (position (nat_eq x) (over scheme.accel)) []

      one_same : (k : ℕ) (before : Wave) (x : ℕ) → Contains (over scheme.accel) x → 1 ≤ k → HavePostedBelow (wave_frame plan) f number w (suc k)
          → accelerated plan f w start k before x (exchange_of plan f x) ≡ accelerated plan g w start k before x (exchange_of plan g x)
      one_same k before x inside first given =
          let at = accelerated_scheme plan valid number x scheme stands inside in
          let posts : IsSome (f at.0.from (Posted w k)) =
          given at.0.from k (sender_in plan valid at.0 number (is_exchange plan valid x at.0 at.1) at.2) first (omega arith) in
          ap (λ (o : Option Exchange). accelerated plan f w start k before x o) at.1
          ∙ accelerated_same w start k before x at.0 (order.turns at.0.from w k posts).2 posts
          ∙ sym (ap (λ (o : Option Exchange). accelerated plan g w start k before x o) at.1)

      -- what relaxation has made of the iterations up to one that all members have posted
      pub relaxed_same : (n : ℕ) → HavePostedBelow (wave_frame plan) f number w (suc n) → relaxed_after plan f scheme w start n ≡ relaxed_after plan g scheme w start n
      relaxed_same zero given = refl
      relaxed_same (suc n) given =
          let step : Look Post → Relaxed → Relaxed = λ look before.
          relaxed_next plan look before (relaxed_iterate before.relaxer (map (λ x. accelerated plan look w start (suc n) (before_of before x) x (exchange_of plan look x)) (over scheme.accel))) in
          ap (λ (before : Relaxed). step f before) (relaxed_same n (λ member j inside low high. given member j inside low (omega (arith, high))))
          ∙ next_same n (relaxed_after plan g scheme w start n) given
        where
          next_same : (n : ℕ) (before : Relaxed) → HavePostedBelow (wave_frame plan) f number w (suc (suc n))
              → relaxed_next plan f before (relaxed_iterate before.relaxer (map (λ x. accelerated plan f w start (suc n) (before_of before x) x (exchange_of plan f x)) (over scheme.accel)))
              ≡ relaxed_next plan g before (relaxed_iterate before.relaxer (map (λ x. accelerated plan g w start (suc n) (before_of before x) x (exchange_of plan g x)) (over scheme.accel)))
          next_same n before given =
              ap (λ (exchanges : List Exchanged). relaxed_next plan f before (relaxed_iterate before.relaxer exchanges))
              (map_same _ _ (over scheme.accel) (λ x inside. one_same (suc n) (before_of before x) x inside (omega arith) given))
              ∙ next_alike before (relaxed_iterate before.relaxer (map (λ x. accelerated plan g w start (suc n) (before_of before x) x (exchange_of plan g x)) (over scheme.accel)))
