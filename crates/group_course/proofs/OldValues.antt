-- What a measured exchange had before, by the kind of the exchange.
use Rattle.std.proofs.Common.{◌≡◌, ℕ, ◌-◌, ◌*◌, ◌≤◌, inl, inr, ◌++◌, nat_eq, eqb, cond, List, [], length, get_or, Option, Some, None, All, arith, refl, ap, sym, subst, ◌∙◌}
use Rattle.std.specs.Prelude.{slice_get, slice_index_or, position, option_to_list, option_map, false}
use Rattle.std.specs.Option.{option_map_or}
use Rattle.std.proofs.lemmas.Bool.{cases_eq, ne_eqb, eqb-true}
use Rattle.std.proofs.lemmas.Nat.{mul-le}
use Rattle.std.proofs.lemmas.Option.{slice_get-get_or}
use Rattle.std.proofs.lemmas.List.Quantifiers.{position-Some}
use Rattle.cpl_plan.specs.PlanWords.{components_of}
use Rattle.cpl_plan.specs.ValidPlan.{IsValidPlan}
use Rattle.cpl_plan.specs.declared.parts.PlanParts.{PlanParts}
use Rattle.cpl_plan.specs.declared.parts.Exchange.{Exchange}
use Rattle.cpl_plan.specs.declared.parts.Kind.{Kind}
use Rattle.cpl_plan.specs.declared.parts.Kind.TheVariants.{Lag, Fresh, FreshIter, Iterated}
use Rattle.cpl_plan.specs.declared.parts.Scheme.{Scheme}
use Rattle.waveform.specs.declared.sample.Sample.{Sample}
use Rattle.coupled_loop.specs.Given.{Look}
use Rattle.sample_store.specs.Kept.{Kept}
use Rattle.wave_coupling.specs.Posts.{Wave, Post, newest_sample, newest_values, at_time, moved_to}
use Rattle.wave_coupling.specs.InputWave.{InputWave, Relaxed, input_by, no_input, iterated_samples, posted, completed, accepted_before, over, relaxed_after}
use Rattle.wave_coupling.specs.Judged.{old_values}
use Rattle.group_course.specs.declared.iteration.Iteration.{Iteration}
use Rattle.group_course.specs.CourseKept.{CourseKept}
use Rattle.group_course.specs.Shapes.{HasShape, IsTurnWave}
use Rattle.group_course.specs.Ready.{IsReady}
use Rattle.group_course.specs.Norms.{IsExchangeOf}
use Rattle.group_course.proofs.Newest.{newest-append}
use Rattle.group_course.proofs.OfPlan.{few_components}
use Rattle.group_course.proofs.Relaxables.{relaxed_turn}

newest-moved : (start : ℕ) (wave : Wave) → newest_values (at_time start wave) ≡ newest_values wave
newest-moved start wave = of (newest_sample wave)
  where
    of : (o : Option Sample) → newest_values (option_to_list (option_map (moved_to start) o)) ≡ option_map_or (λ s. s.field.values) o []
    of None = refl
    of (Some s) = refl

module _ (plan : PlanParts) (look : Look Post) (e : Exchange) (x w start k : ℕ) where
  -- in the first iteration the values at the window's start
  pub old_first : (kind : Kind) → k ≡ 1 → slice_get plan.exchanges x ≡ Some e → e.kind ≡ kind → old_values plan look kind e x w start k ≡ newest_values (completed plan look e x (w - 1)).wave
  old_first Lag one there is = ap (λ (n : ℕ). newest_values (cond (eqb n 1) (completed plan look e x (w - 1)).wave (posted plan look e x w (n - 1)).wave)) one
  old_first Fresh one there is = ap (λ (n : ℕ). newest_values (cond (eqb n 1) (completed plan look e x (w - 1)).wave (posted plan look e x w (n - 1)).wave)) one
  old_first FreshIter one there is = ap (λ (n : ℕ). newest_values (cond (eqb n 1) (completed plan look e x (w - 1)).wave (posted plan look e x w (n - 1)).wave)) one
  old_first Iterated one there is =
      ap (λ (o : Option Exchange). newest_values (option_map_or (λ f. input_by plan look f.kind f x w start k) o no_input).wave) there
      ∙ ap (λ (kind : Kind). newest_values (input_by plan look kind e x w start k).wave) is
      ∙ ap (λ (n : ℕ). newest_values (input_by plan look Iterated e x w start n).wave) one
      ∙ newest-moved start (completed plan look e x (w - 1)).wave

  not_one : 2 ≤ k → eqb k 1 ≡ false
  not_one later = ne_eqb k 1 (λ one. omega (arith, one, later))

  -- after it what was posted before, or what was read
  pub old_other : (kind : Kind) → 2 ≤ k → (kind ≡ Iterated → ⊥) → old_values plan look kind e x w start k ≡ newest_values (posted plan look e x w (k - 1)).wave
  old_other Lag later other = ap (λ b. newest_values (cond b (completed plan look e x (w - 1)).wave (posted plan look e x w (k - 1)).wave)) (not_one later)
  old_other Fresh later other = ap (λ b. newest_values (cond b (completed plan look e x (w - 1)).wave (posted plan look e x w (k - 1)).wave)) (not_one later)
  old_other FreshIter later other = ap (λ b. newest_values (cond b (completed plan look e x (w - 1)).wave (posted plan look e x w (k - 1)).wave)) (not_one later)
  old_other Iterated later other = absurd (other refl)

  pub old_iterated : 2 ≤ k → slice_get plan.exchanges x ≡ Some e → e.kind ≡ Iterated → (samples : Wave) → 1 ≤ length samples
      → iterated_samples plan look e x w start (k - 1) (slice_get plan.schemes e.scheme) ≡ samples → old_values plan look Iterated e x w start k ≡ newest_values samples
  old_iterated later there is samples some are =
      ap (λ (o : Option Exchange). newest_values (option_map_or (λ f. input_by plan look f.kind f x w start k) o no_input).wave) there
      ∙ ap (λ (kind : Kind). newest_values (input_by plan look kind e x w start k).wave) is
      ∙ ap (λ b. newest_values (cond b (first_input) (later_input)).wave) (not_one later)
      ∙ ap (λ (ws : Wave). newest_values (accepted_before plan look e x w start ++ ws)) are
      ∙ newest-append (accepted_before plan look e x w start) samples some
    where
      first_input : InputWave
      first_input = record { source_window = w - 1; source_iteration = (completed plan look e x (w - 1)).iteration; wave = accepted_before plan look e x w start }

      later_input : InputWave
      later_input = record {
        source_window = w;
        source_iteration = k - 1;
        wave = accepted_before plan look e x w start ++ iterated_samples plan look e x w start (k - 1) (slice_get plan.schemes e.scheme);
      }

-- how many values are newest in a wave of a shape
newest-length : (c v : ℕ) (wave : Wave) → 1 ≤ length wave → All (λ s. HasShape c v s.field) wave → length (newest_values wave) ≡ c * v
newest-length c v wave some all =
    let d : Sample = record { time = 0; field = record { components = 0; values = [] } } in
    ap (λ (o : Option Sample). length (option_map_or (λ s. s.field.values) o [])) (slice_get-get_or wave (length wave - 1) d (omega (arith, some)))
    ∙ (all (length wave - 1) d (omega (arith, some))).values

module _ (plan : PlanParts) (valid : IsValidPlan plan) (stores : List (Option Kept)) (at : Iteration) (course : CourseKept) (first : 1 ≤ at.number) (ready : IsReady plan stores at course) (scheme : Scheme)
    (is : slice_get plan.schemes at.scheme ≡ Some scheme) (x : ℕ) (own : IsExchangeOf plan at.scheme x) where
  abbrev components : ℕ
  components = components_of plan own.exchange

  abbrev vertices : ℕ
  vertices = ready.shaped.vertices own.exchange.mesh

  abbrev IsTurn : Wave → Type 0
  IsTurn wave = IsTurnWave components vertices at.start ready.shaped.end wave

  last : 2 ≤ at.number → IsTurn (posted plan ready.look own.exchange x at.window (at.number - 1)).wave
  last later = (ready.shaped.waves x own.exchange own.there own.own).last later

  -- what was read after the first iteration has the shape of a turn's wave
  pub iterated_turn : 2 ≤ at.number → IsTurn (iterated_samples plan ready.look own.exchange x at.window at.start (at.number - 1) (slice_get plan.schemes own.exchange.scheme))
  iterated_turn later =
      let here : slice_get plan.schemes own.exchange.scheme ≡ Some scheme = ap (λ (s : ℕ). slice_get plan.schemes s) own.own ∙ is in
      subst (λ (o : Option Scheme). IsTurn (iterated_samples plan ready.look own.exchange x at.window at.start (at.number - 1) o)) (sym here) (of (position (nat_eq x) (over scheme.accel)) refl)
    where
      told : relaxed_after plan ready.look scheme at.window at.start (at.number - 1) ≡ record { waves = course.waves; relaxer = course.relaxer; outside = None }
      told = (ready.tells.before scheme is later).relaxed

      of : (o : Option ℕ) → position (nat_eq x) (over scheme.accel) ≡ o
          → IsTurn (option_map_or (λ place. slice_index_or (relaxed_after plan ready.look scheme at.window at.start (at.number - 1)).waves place []) o
          (posted plan ready.look own.exchange x at.window (at.number - 1)).wave)
      of None none = last later
      of (Some place) found =
          let there = position-Some (nat_eq x) (over scheme.accel) place 0 found in
          let here : slice_get (over scheme.accel) place ≡ Some x =
          slice_get-get_or (over scheme.accel) place 0 there.0 ∙ ap Some (sym (eqb-true x (get_or (over scheme.accel) place 0) there.1)) in
          subst (λ (r : Relaxed). IsTurn (slice_index_or r.waves place [])) (sym told)
          (relaxed_turn plan valid stores at course first ready scheme is later place x own here)

  pub old-length : length (old_values plan ready.look own.exchange.kind own.exchange x at.window at.start at.number) ≡ components * vertices
  old-length = elim (cases_eq at.number 1) [
    | inl one ↦
        let shape = ready.shaped.waves x own.exchange own.there own.own in
        ap (λ vs. length vs) (old_first plan ready.look own.exchange x at.window at.start at.number own.exchange.kind one own.there refl)
        ∙ newest-length components vertices (completed plan ready.look own.exchange x (at.window - 1)).wave shape.some shape.before
    | inr more ↦ by own.exchange.kind refl (omega (arith, first, more))
  ]
    where
      other : (kind : Kind) → 2 ≤ at.number → (kind ≡ Iterated → ⊥) → length (old_values plan ready.look kind own.exchange x at.window at.start at.number) ≡ components * vertices
      other kind later not =
          ap (λ vs. length vs) (old_other plan ready.look own.exchange x at.window at.start at.number kind later not)
          ∙ newest-length components vertices (posted plan ready.look own.exchange x at.window (at.number - 1)).wave (last later).some (last later).shape

      by : (kind : Kind) → own.exchange.kind ≡ kind → 2 ≤ at.number → length (old_values plan ready.look kind own.exchange x at.window at.start at.number) ≡ components * vertices
      by Iterated same later =
          let turn = iterated_turn later in
          let samples = iterated_samples plan ready.look own.exchange x at.window at.start (at.number - 1) (slice_get plan.schemes own.exchange.scheme) in
          ap (λ vs. length vs) (old_iterated plan ready.look own.exchange x at.window at.start at.number later own.there same samples turn.some refl)
          ∙ newest-length components vertices samples turn.some turn.shape
      by Lag same later = other Lag later (λ e. cc)
      by Fresh same later = other Fresh later (λ e. cc)
      by FreshIter same later = other FreshIter later (λ e. cc)

  -- the values that were posted are as many, and not too many
  pub new-length : length (newest_values (posted plan ready.look own.exchange x at.window at.number).wave) ≡ components * vertices
  new-length =
      let turn = (ready.shaped.waves x own.exchange own.there own.own).newest in
      newest-length components vertices (posted plan ready.look own.exchange x at.window at.number).wave turn.some turn.shape

  pub few_values : components * vertices ≤ 30000
  few_values = mul-le components vertices 3 10000 (few_components plan valid own.exchange) (ready.shaped.few own.exchange.mesh)
