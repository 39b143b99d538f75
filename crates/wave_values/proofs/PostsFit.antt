-- What a participant posts for a window fits in each later look.
use Rattle.std.proofs.Common.{◌≡◌, inl, inr, ℕ, zero, suc, ◌-◌, ◌<◌, ◌≤◌, Bool, true, false, nat_eq, cond, List, [], ◌∷◌, length, find, slice_get, Option, Some, None, Contains, refl, ap, sym, subst, ◌∙◌, arith}
use Rattle.std.specs.Prelude.{option_map}
use Rattle.std.specs.List.{zip}
use Rattle.std.specs.Option.{option_map_or}
use Rattle.std.proofs.lemmas.Bool.{cases_Bool, eq-eqb, eqb-true, false≢true}
use Rattle.std.proofs.lemmas.List.{get_or-map}
use Rattle.std.proofs.lemmas.Option.{none-some, same_Some, slice_get-get_or}
use Rattle.plan_order.proofs.Loops.{head_in}
use Rattle.plan_order.proofs.Orders.{none_in_nil}
use Rattle.waveform.specs.declared.sample.Sample.{Sample}
use Rattle.waveform.proofs.Places.{no_sample}
use Rattle.cpl_plan.specs.PlanWords.{components_of, numbers, passes}
use Rattle.cpl_plan.specs.ValidPlan.{IsValidPlan}
use Rattle.cpl_plan.specs.declared.parts.PlanParts.{PlanParts}
use Rattle.cpl_plan.specs.declared.parts.Exchange.{Exchange}
use Rattle.cpl_plan.specs.declared.words.Item.TheVariants.{Completed}
use Rattle.cpl_plan.proofs.Readings.{filter_in, passes_at}
use Rattle.coupled_loop.specs.Given.{Gift, Look}
use Rattle.coupled_loop.specs.Settled.{Extends, IsInOrder, IsProvided}
use Rattle.wave_coupling.specs.Posts.{Wave, Post, newest_time, sent, wave_of}
use Rattle.wave_coupling.specs.Coupling.{latest_of, makes_windows, start_of, wave_frame}
use Rattle.wave_laws.specs.Fitting.{IsFittingLook, IsPostedWave, count_of, end_told}
use Rattle.wave_values.specs.Fits.{EndsInTime}
use Rattle.wave_values.proofs.WritesFit.{sent_in}
use Rattle.wave_values.proofs.Times.{end_made}
use Rattle.wave_values.proofs.TurnsFit.{IsTurn, first_window, makes_first, maker_sends, turn_is}

module _ (plan : PlanParts) (valid : IsValidPlan plan) (vertices : ℕ → ℕ) (part : ℕ) where
  -- the newest sample of a fitting post is at its end
  newest_first : (start end components count y : ℕ) (ys : List ℕ) (post : Post)
      → IsPostedWave start end components count (option_map_or (λ (pair : ℕ × Wave). pair.1) (find (λ (pair : ℕ × Wave). nat_eq pair.0 y) (zip (y ∷ ys) post)) [])
      → newest_time post ≡ end
  newest_first start end components count y ys [] is = absurd (let least = is.least in omega (arith, least))
  newest_first start end components count y ys (wave ∷ rest) is =
      let own : IsPostedWave start end components count wave =
      subst (λ (b : Bool). IsPostedWave start end components count (option_map_or (λ (pair : ℕ × Wave). pair.1) (cond b (Some (y, wave)) (find (λ (pair : ℕ × Wave). nat_eq pair.0 y) (zip ys rest))) []))
      (eq-eqb y y refl) is in
      let least : 1 ≤ length wave = own.least in
      let within : length wave - 1 < length wave = omega (arith, least) in
      ap (λ (o : Option Sample). option_map_or (λ sample. sample.time) o 0) (slice_get-get_or wave (length wave - 1) no_sample within)
      ∙ sym (get_or-map (λ (s : Sample). s.time) wave (length wave - 1) no_sample 0 within) ∙ own.at_end

  newest_is : (start end : ℕ) (post : Post)
      → ((x : ℕ) (e : Exchange) → slice_get plan.exchanges x ≡ Some e → e.from ≡ part → IsPostedWave start end (components_of plan e) (count_of plan vertices e) (wave_of plan e x post))
      → (x : ℕ) (e : Exchange) → slice_get plan.exchanges x ≡ Some e → e.from ≡ part → newest_time post ≡ end
  newest_is start end post fits x e at sends = by (sent plan part) refl (sent_in plan valid (record { own = []; received = [] }) x e at part sends)
    where
      by : (xs : List ℕ) → sent plan part ≡ xs → Contains xs x → newest_time post ≡ end
      by [] same inside = absurd (none_in_nil x inside)
      by (y ∷ ys) same inside =
          let own : Contains (sent plan part) y = subst (λ (zs : List ℕ). Contains zs y) (sym same) (head_in y ys) in
          let found = passes_at plan.exchanges y (λ f. nat_eq f.from part) (filter_in (λ z. passes plan.exchanges z (λ f. nat_eq f.from part)) (numbers plan.exchanges) y own).1 in
          let first : found.0.from ≡ part = eqb-true found.0.from part found.2 in
          let wave = fits y found.0 found.1 first in
          newest_first start end (components_of plan found.0) (count_of plan vertices found.0) y ys post
          (subst (λ (zs : List ℕ). IsPostedWave start end (components_of plan found.0) (count_of plan vertices found.0)
          (option_map_or (λ (pair : ℕ × Wave). pair.1) (find (λ (pair : ℕ × Wave). nat_eq pair.0 y) (zip zs post)) [])) (ap (λ (p : ℕ). sent plan p) first ∙ same) wave)

  module _ (f g : Look Post) (extends : Extends f g) (order : IsInOrder g) (v start latest : ℕ) (one_step : Bool) (turn : IsTurn plan f part (suc v) start latest one_step) (post : Post)
      (ends : EndsInTime plan vertices part start latest one_step post) (gift : Gift Post)
      (done : makes_windows plan part ≡ true → (g part (Completed (suc v)) ≡ Some gift) × (gift.post ≡ post)) where
    end_is : end_told plan g (suc v) ≡ ends.end
    end_is = by one_step refl
      where
        by : (b : Bool) → one_step ≡ b → end_told plan g (suc v) ≡ ends.end
        by false many = turn.ends many g extends order ∙ sym (ends.reached many)
        by true one =
            let makes : makes_windows plan part ≡ true = sym turn.makes ∙ one in
            let first = makes_first plan valid part makes in
            let given = done makes in
            let sender = maker_sends plan valid first.0 in
            end_made plan g order first.0 v gift (subst (λ (p : ℕ). g p (Completed (suc v)) ≡ Some gift) first.1 given.0) (turn.there g extends order)
            ∙ ap newest_time given.1
            ∙ newest_is start ends.end post ends.waves sender.0 sender.1 sender.2 (sender.3 ∙ sym first.1)

    -- what is posted for a window
    pub post_given : (x : ℕ) (e : Exchange) → slice_get plan.exchanges x ≡ Some e → e.from ≡ part
        → IsPostedWave (start_of plan g (suc v)) (end_told plan g (suc v)) (components_of plan e) (count_of plan vertices e) (wave_of plan e x post)
    post_given x e at sends =
        subst (λ (s : ℕ). IsPostedWave s (end_told plan g (suc v)) (components_of plan e) (count_of plan vertices e) (wave_of plan e x post)) (sym (turn.starts g extends order))
        (subst (λ (n : ℕ). IsPostedWave start n (components_of plan e) (count_of plan vertices e) (wave_of plan e x post)) (sym end_is) (ends.waves x e at sends))

  -- the post of a turn that could begin
  module _ (f g : Look Post) (fits : IsFittingLook plan vertices f) (order : IsInOrder f) (ordered : IsInOrder g) (extends : Extends f g) where
    given_with : (o : Option (Gift Post)) (post : Post) → option_map (λ (gift : Gift Post). gift.post) o ≡ Some post → (gift : Gift Post) × (o ≡ Some gift) × (gift.post ≡ post)
    given_with None post is = absurd (none-some post is)
    given_with (Some gift) post is = (gift, refl, same_Some gift.post post is)

    no_gift : (post : Post) → Gift Post
    no_gift post = record { item = Completed 0; iteration = 0; post = post }

    pub post_in_window : (w k : ℕ) → part < length plan.parts → IsProvided (wave_frame plan) f part w k → (post : Post)
        → EndsInTime plan vertices part (start_of plan f w) (latest_of plan f part w) (makes_windows plan part) post
        → (makes_windows plan part ≡ true → option_map (λ (gift : Gift Post). gift.post) (g part (Completed w)) ≡ Some post)
        → (x : ℕ) (e : Exchange) → slice_get plan.exchanges x ≡ Some e → e.from ≡ part
        → IsPostedWave (start_of plan g w) (end_told plan g w) (components_of plan e) (count_of plan vertices e) (wave_of plan e x post)
    post_in_window zero k below provided post ends done x e at sends =
        absurd (let first = first_window plan valid vertices f order fits part 0 k below provided in omega (arith, first))
    post_in_window (suc v) k below provided post ends done x e at sends =
        elim (cases_Bool (makes_windows plan part)) [
          | inl makes ↦
              let gift = given_with (g part (Completed (suc v))) post (done makes) in
              post_given f g extends ordered v (start_of plan f (suc v)) (latest_of plan f part (suc v)) (makes_windows plan part)
              (turn_is plan valid vertices f order fits part (suc v) k below provided) post ends gift.0 (λ again. (gift.1, gift.2)) x e at sends
          | inr other ↦
              post_given f g extends ordered v (start_of plan f (suc v)) (latest_of plan f part (suc v)) (makes_windows plan part)
              (turn_is plan valid vertices f order fits part (suc v) k below provided) post ends (no_gift post) (λ makes. absurd (false≢true (sym other ∙ makes))) x e at sends
        ]
