-- The inputs of a participant look only at what it was given before its turn.
use Rattle.std.proofs.Common.{◌≡◌, ℕ, zero, suc, ◌⊎◌, ◌-◌, ◌<◌, ◌≤◌, inl, inr, Bool, true, false, ◌==◌, if◌then◌else◌, nat_eq, List, [], ◌++◌, length, map, slice_get, slice_index_or, position, Option, Some, IsSome, IsTrue, refl, ap, sym, subst, ◌∙◌, arith, Contains}
use Rattle.std.specs.Option.{option_map_or}
use Rattle.std.proofs.lemmas.Bool.{eqb-true, eqb-false}
use Rattle.cpl_plan.specs.Needs.{needs}
use Rattle.cpl_plan.specs.PlanWords.{numbers, passes}
use Rattle.cpl_plan.specs.ValidPlan.{IsValidPlan}
use Rattle.cpl_plan.specs.Windows.{latest_end, window_end}
use Rattle.cpl_plan.specs.declared.parts.PlanParts.{PlanParts}
use Rattle.cpl_plan.specs.declared.parts.Exchange.{Exchange}
use Rattle.cpl_plan.specs.declared.parts.Scheme.{Scheme}
use Rattle.cpl_plan.specs.declared.parts.Kind.{Kind}
use Rattle.cpl_plan.specs.declared.parts.Kind.TheVariants.{Lag, Fresh, FreshIter, Iterated}
use Rattle.cpl_plan.specs.declared.words.Need.{Need}
use Rattle.cpl_plan.specs.declared.words.Item.TheVariants.{Posted}
use Rattle.cpl_plan.proofs.Readings.{passes_at, filter_in}
use Rattle.cpl_plan.proofs.FixedWindows.{window_number}
use Rattle.coupled_loop.specs.Given.{Look}
use Rattle.coupled_loop.specs.PlanFrames.{ends_made, window_maker, is_told, group_of}
use Rattle.coupled_loop.specs.Settled.{Extends, IsInOrder, HavePostedBelow, IsProvided}
use Rattle.wave_coupling.specs.Posts.{Wave, Post, newest_time, received}
use Rattle.wave_coupling.specs.InputWave.{Sent, Relaxed, InputWave, completed, posted, accepted_before, over, relaxed_after, iterated_samples, input_by, input_wave, no_input}
use Rattle.wave_coupling.specs.Solve.{Inputs}
use Rattle.wave_coupling.specs.Coupling.{wave_frame, makes_windows, start_of, latest_of, inputs_of}
use Rattle.wave_laws.proofs.Stills.{map_same, start_still, end_still}
use Rattle.wave_laws.proofs.Senders.{IsExchange, IsGivenFor, is_exchange, sender_in, given_for, completed_before, reader_group}
use Rattle.wave_laws.proofs.Relaxing.{completed_same, posted_same, accepted_same, relaxed_same}

-- one less than a number that is over one
pub over_one : (k : ℕ) → 1 ≤ k → ¬ (k ≡ 1) → 1 ≤ k - 1
over_one k low apart = elim (cases_le (k - 1)) [ inl none ↦ absurd (apart (omega (arith, low, none))) | inr some ↦ some ]
  where
    cases_le : (n : ℕ) → (n ≡ 0) ⊎ (1 ≤ n)
    cases_le zero = inl refl
    cases_le (suc n) = inr (omega arith)

module _ (plan : PlanParts) (valid : IsValidPlan plan) (f g : Look Post) (extends : Extends f g) (order : IsInOrder f) where
  pub starts_same : (w : ℕ) → IsTrue (is_told plan newest_time f w) → start_of plan f w ≡ start_of plan g w
  starts_same w there = ap (λ (o : Option ℕ). option_map_or (λ start. start) o 0) (start_still plan newest_time f g extends order w there)

  latest_same : (part w k : ℕ) → part < length plan.parts → IsTrue (is_told plan newest_time f w)
      → ((need : Need) → Contains (needs plan part w k) need → IsSome (f need.owner need.item)) → latest_of plan f part w ≡ latest_of plan g part w
  latest_same part w k below there given = by (makes_windows plan part) refl
    where
      by : (b : Bool) → makes_windows plan part ≡ b
          → (if b then latest_end plan (start_of plan f w) else option_map_or (λ end. end) (window_end plan (ends_made newest_time f (window_maker plan) w) w) 0)
          ≡ (if b then latest_end plan (start_of plan g w) else option_map_or (λ end. end) (window_end plan (ends_made newest_time g (window_maker plan) w) w) 0)
      by true is = ap (latest_end plan) (starts_same w there)
      by false is = ap (λ (o : Option ℕ). option_map_or (λ end. end) o 0) (end_still plan valid newest_time f g extends order part w k below given is)

  -- the samples of a repeated window, from the iterations that all members have posted
  iterated_same : (e : Exchange) (x w start j : ℕ) → IsExchange plan e → 1 ≤ j → HavePostedBelow (wave_frame plan) f e.scheme w (suc j)
      → iterated_samples plan f e x w start j (slice_get plan.schemes e.scheme) ≡ iterated_samples plan g e x w start j (slice_get plan.schemes e.scheme)
  iterated_same e x w start j is first given =
      let posts : IsSome (f e.from (Posted w j)) = given e.from j (sender_in plan valid e e.scheme is refl) first (omega arith) in
      ap (λ (o : Option Scheme). iterated_samples plan f e x w start j o) is.stands
      ∙ ap (λ (r : Relaxed). option_map_or (λ place. slice_index_or r.waves place []) (position (nat_eq x) (over is.scheme.accel)) (posted plan f e x w j).wave)
      (relaxed_same plan f g extends valid order e.scheme is.scheme is.stands w start j given)
      ∙ ap (λ (s : Sent). option_map_or (λ place. slice_index_or (relaxed_after plan g is.scheme w start j).waves place []) (position (nat_eq x) (over is.scheme.accel)) s.wave)
      (posted_same plan f g extends e x w j posts)
      ∙ sym (ap (λ (o : Option Scheme). iterated_samples plan g e x w start j o) is.stands)

  abbrev input_from : (window iteration : ℕ) → Wave → InputWave
  input_from window iteration wave = record { source_window = window; source_iteration = iteration; wave = wave }

  -- an input by its kind, once the sender and, in a repeated window, all members have given what is asked for
  pub input_same : (kind : Kind) (e : Exchange) (x w start k : ℕ) → IsExchange plan e → 1 ≤ w → 1 ≤ k → IsGivenFor kind f e.from w k
      → (kind ≡ Iterated → HavePostedBelow (wave_frame plan) f e.scheme w k) → input_by plan f kind e x w start k ≡ input_by plan g kind e x w start k
  input_same Lag e x w start k is there first given group =
      ap (λ (s : Sent). input_from (w - 1) s.iteration (accepted_before plan f e x w start)) (completed_same plan f g extends e x (w - 1) given)
      ∙ ap (λ (wave : Wave). input_from (w - 1) (completed plan g e x (w - 1)).iteration wave) (accepted_same plan f g extends e x w start given)
  input_same Fresh e x w start k is there first given group =
      ap (λ (s : Sent). input_from w s.iteration (accepted_before plan f e x w start ++ s.wave)) (completed_same plan f g extends e x w given)
      ∙ ap (λ (wave : Wave). input_from w (completed plan g e x w).iteration (wave ++ (completed plan g e x w).wave))
      (accepted_same plan f g extends e x w start (completed_before f order Fresh e.from w k there given))
  input_same FreshIter e x w start k is there first given group =
      ap (λ (s : Sent). input_from w k (accepted_before plan f e x w start ++ s.wave)) (posted_same plan f g extends e x w k given)
      ∙ ap (λ (wave : Wave). input_from w k (wave ++ (posted plan g e x w k).wave))
      (accepted_same plan f g extends e x w start (completed_before f order FreshIter e.from w k there given))
  input_same Iterated e x w start k is there first given group = by (k == 1) refl
    where
      by : (b : Bool) → (k == 1) ≡ b
          → (if b then input_from (w - 1) (completed plan f e x (w - 1)).iteration (accepted_before plan f e x w start)
          else input_from w (k - 1) (accepted_before plan f e x w start ++ iterated_samples plan f e x w start (k - 1) (slice_get plan.schemes e.scheme)))
          ≡ (if b then input_from (w - 1) (completed plan g e x (w - 1)).iteration (accepted_before plan g e x w start)
          else input_from w (k - 1) (accepted_before plan g e x w start ++ iterated_samples plan g e x w start (k - 1) (slice_get plan.schemes e.scheme)))
      by true one =
          ap (λ (s : Sent). input_from (w - 1) s.iteration (accepted_before plan f e x w start)) (completed_same plan f g extends e x (w - 1) given)
          ∙ ap (λ (wave : Wave). input_from (w - 1) (completed plan g e x (w - 1)).iteration wave) (accepted_same plan f g extends e x w start given)
      by false more =
          let low : 1 ≤ k - 1 = over_one k first (eqb-false k 1 more) in
          ap (λ (wave : Wave). input_from w (k - 1) (wave ++ iterated_samples plan f e x w start (k - 1) (slice_get plan.schemes e.scheme)))
          (accepted_same plan f g extends e x w start given)
          ∙ ap (λ (wave : Wave). input_from w (k - 1) (accepted_before plan g e x w start ++ wave))
          (iterated_same e x w start (k - 1) is low (λ member j inside least high. group refl member j inside least (omega (arith, high, first))))

  module _ (part w k : ℕ) (below : part < length plan.parts) (provided : IsProvided (wave_frame plan) f part w k) where
    first_window : 1 ≤ w
    first_window = (window_number plan (ends_made newest_time f (window_maker plan) (w - 1)) w provided.window).0

    wave_same : (start x : ℕ) → Contains (received plan part) x → input_wave plan f x w start k ≡ input_wave plan g x w start k
    wave_same start x inside =
        let own = filter_in (λ y. passes plan.exchanges y (λ e. nat_eq e.to part)) (numbers plan.exchanges) x inside in
        let at = passes_at plan.exchanges x (λ e. nat_eq e.to part) own.1 in
        let reader : at.0.to ≡ part = eqb-true at.0.to part at.2 in
        of at.0 at.1 reader
      where
        of : (e : Exchange) → slice_get plan.exchanges x ≡ Some e → e.to ≡ part → input_wave plan f x w start k ≡ input_wave plan g x w start k
        of e at reader =
            let is = is_exchange plan valid x e at in
            let given : (need : Need) → Contains (needs plan e.to w k) need → IsSome (f need.owner need.item) =
            subst (λ (p : ℕ). (need : Need) → Contains (needs plan p w k) need → IsSome (f need.owner need.item)) (sym reader) provided.needed in
            let group : e.kind ≡ Iterated → HavePostedBelow (wave_frame plan) f e.scheme w k =
            λ kind. provided.group e.scheme (subst (λ (p : ℕ). group_of plan p ≡ Some e.scheme) reader (reader_group plan valid e is kind)) in
            ap (λ (o : Option Exchange). option_map_or (λ e. input_by plan f e.kind e x w start k) o no_input) at
            ∙ input_same e.kind e x w start k is first_window provided.iteration (given_for plan valid f e w k is given) group
            ∙ sym (ap (λ (o : Option Exchange). option_map_or (λ e. input_by plan g e.kind e x w start k) o no_input) at)

    abbrev inputs_by : (start latest : ℕ) → List InputWave → Inputs
    inputs_by start latest waves = record { start = start; latest = latest; one_step = makes_windows plan part; waves = waves }

    -- the inputs stay as they are
    pub inputs_same : inputs_of plan f part w k ≡ inputs_of plan g part w k
    inputs_same =
        ap (λ (waves : List InputWave). inputs_by (start_of plan f w) (latest_of plan f part w) waves)
        (map_same (λ x. input_wave plan f x w (start_of plan f w) k) (λ x. input_wave plan g x w (start_of plan f w) k) (received plan part) (λ x inside. wave_same (start_of plan f w) x inside))
        ∙ ap (λ (latest : ℕ). inputs_by (start_of plan f w) latest (map (λ x. input_wave plan g x w (start_of plan f w) k) (received plan part)))
        (latest_same part w k below provided.window provided.needed)
        ∙ ap (λ (start : ℕ). inputs_by start (latest_of plan g part w) (map (λ x. input_wave plan g x w start k) (received plan part)))
        (starts_same w provided.window)
