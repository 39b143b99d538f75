-- The inputs of a turn fit their exchanges, where all that was given fits.
use Rattle.std.proofs.Common.{◌≡◌, ◌⊎◌, inl, inr, ℕ, suc, ◌-◌, ◌≤◌, Bool, true, false, ◌==◌, if◌then◌else◌, nat_eq, [], ◌++◌, slice_get, slice_index_or, position, Option, Some, None, IsSome, refl, sym, subst, arith, append-nil, Contains}
use Rattle.std.specs.Option.{option_map_or}
use Rattle.std.proofs.lemmas.Bool.{eqb-false}
use Rattle.cpl_plan.specs.Needs.{needs}
use Rattle.cpl_plan.specs.ValidPlan.{IsValidPlan}
use Rattle.cpl_plan.specs.declared.parts.PlanParts.{PlanParts}
use Rattle.cpl_plan.specs.declared.parts.Exchange.{Exchange}
use Rattle.cpl_plan.specs.declared.parts.Scheme.{Scheme}
use Rattle.cpl_plan.specs.declared.parts.Kind.{Kind}
use Rattle.cpl_plan.specs.declared.parts.Kind.TheVariants.{Lag, Fresh, FreshIter, Iterated}
use Rattle.cpl_plan.specs.declared.words.Need.{Need}
use Rattle.cpl_plan.specs.declared.words.Item.TheVariants.{Completed, Posted}
use Rattle.cpl_plan.proofs.FixedWindows.{window_number}
use Rattle.coupled_loop.specs.Given.{Look}
use Rattle.coupled_loop.specs.PlanFrames.{ends_made, window_maker, group_of}
use Rattle.coupled_loop.specs.Settled.{IsInOrder, HavePostedBelow, IsProvided}
use Rattle.wave_coupling.specs.Posts.{Wave, Post, newest_time}
use Rattle.wave_coupling.specs.InputWave.{InputWave, completed, posted, accepted_before, over, relaxed_after, iterated_samples, input_by, input_wave, no_input}
use Rattle.wave_coupling.specs.Coupling.{wave_frame, start_of}
use Rattle.wave_laws.specs.Fitting.{IsFittingLook, IsRelaxedBelow}
use Rattle.wave_laws.proofs.Senders.{IsExchange, IsGivenFor, is_exchange, sender_in, given_for, completed_before, reader_group}
use Rattle.wave_laws.proofs.InputsStay.{over_one}
use Rattle.wave_laws.proofs.RelaxedFits.{FitsPost, FitsInput, input_with, found_place, all_relaxed}

abbrev input_from : (window iteration : ℕ) → Wave → InputWave
input_from window iteration wave = record { source_window = window; source_iteration = iteration; wave = wave }

module _ (plan : PlanParts) (valid : IsValidPlan plan) (vertices : ℕ → ℕ) (look : Look Post) (fits : IsFittingLook plan vertices look) (order : IsInOrder look) where
  -- the samples of a repeated window
  iterated_fits : (x w j : ℕ) (e : Exchange) → slice_get plan.exchanges x ≡ Some e → (is : IsExchange plan e) → 1 ≤ j → HavePostedBelow (wave_frame plan) look e.scheme w (suc j)
      → IsRelaxedBelow plan look is.scheme w (suc j)
      → FitsPost plan valid vertices look fits w e (iterated_samples plan look e x w (start_of plan look w) j (slice_get plan.schemes e.scheme))
  iterated_fits x w j e at is first given inside =
      subst (λ (o : Option Scheme). FitsPost plan valid vertices look fits w e (iterated_samples plan look e x w (start_of plan look w) j o)) (sym is.stands)
      (by (position (nat_eq x) (over is.scheme.accel)) refl (all_relaxed plan valid vertices look fits order e.scheme is.scheme is.stands w j given inside))
    where
      posts : IsSome (look e.from (Posted w j))
      posts = given e.from j (sender_in plan valid e e.scheme is refl) first (omega arith)

      by : (o : Option ℕ) → position (nat_eq x) (over is.scheme.accel) ≡ o
          → (j ≡ 0) ⊎ ((place y : ℕ) (e' : Exchange) → slice_get (over is.scheme.accel) place ≡ Some y → slice_get plan.exchanges y ≡ Some e'
          → FitsPost plan valid vertices look fits w e' (slice_index_or (relaxed_after plan look is.scheme w (start_of plan look w) j).waves place []))
          → FitsPost plan valid vertices look fits w e
          (option_map_or (λ place. slice_index_or (relaxed_after plan look is.scheme w (start_of plan look w) j).waves place []) o (posted plan look e x w j).wave)
      by None none relaxed = fits.posts x w j e at posts
      by (Some place) found (inl zero_on) = absurd (omega (arith, zero_on, first))
      by (Some place) found (inr are) = are place x e (found_place x (over is.scheme.accel) place found) at

  -- what a window that is read begins with
  start_fits : (x w : ℕ) (e : Exchange) → slice_get plan.exchanges x ≡ Some e → IsSome (look e.from (Completed (w - 1)))
      → FitsInput plan valid vertices look fits w e (accepted_before plan look e x w (start_of plan look w))
  start_fits x w e at done =
      subst (λ (wave : Wave). FitsInput plan valid vertices look fits w e wave) (append-nil (accepted_before plan look e x w (start_of plan look w)))
      (input_with plan valid vertices look fits x w e at done [] (inl refl))

  -- an input by its kind
  by_kind : (kind : Kind) (x w k : ℕ) (e : Exchange) → slice_get plan.exchanges x ≡ Some e → (is : IsExchange plan e) → 1 ≤ w → 1 ≤ k → IsGivenFor kind look e.from w k
      → (kind ≡ Iterated → HavePostedBelow (wave_frame plan) look e.scheme w k) → (kind ≡ Iterated → IsRelaxedBelow plan look is.scheme w k)
      → FitsInput plan valid vertices look fits w e (input_by plan look kind e x w (start_of plan look w) k).wave
  by_kind Lag x w k e at is there first given group relaxed = start_fits x w e at given
  by_kind Fresh x w k e at is there first given group relaxed =
      input_with plan valid vertices look fits x w e at (completed_before look order Fresh e.from w k there given) (completed plan look e x w).wave (inr (fits.accepted x w e at there given))
  by_kind FreshIter x w k e at is there first given group relaxed =
      input_with plan valid vertices look fits x w e at (completed_before look order FreshIter e.from w k there given) (posted plan look e x w k).wave (inr (fits.posts x w k e at given))
  by_kind Iterated x w k e at is there first given group relaxed = by (k == 1) refl
    where
      by : (b : Bool) → (k == 1) ≡ b
          → FitsInput plan valid vertices look fits w e
          (if◌then◌else◌ {A = InputWave} b (input_from (w - 1) (completed plan look e x (w - 1)).iteration (accepted_before plan look e x w (start_of plan look w)))
          (input_from w (k - 1) (accepted_before plan look e x w (start_of plan look w) ++ iterated_samples plan look e x w (start_of plan look w) (k - 1) (slice_get plan.schemes e.scheme)))).wave
      by true one = start_fits x w e at given
      by false more =
          let low : 1 ≤ k - 1 = over_one k first (eqb-false k 1 more) in
          input_with plan valid vertices look fits x w e at given (iterated_samples plan look e x w (start_of plan look w) (k - 1) (slice_get plan.schemes e.scheme))
          (inr (iterated_fits x w (k - 1) e at is low (λ member j among least high. group refl member j among least (omega (arith, high, first)))
          (λ j least high. relaxed refl j least (omega (arith, high, first)))))

  -- the input of an exchange at its reader's turn
  pub input_fits : (part w k x : ℕ) (e : Exchange) → IsProvided (wave_frame plan) look part w k
      → ((number : ℕ) (scheme : Scheme) → group_of plan part ≡ Some number → slice_get plan.schemes number ≡ Some scheme → IsRelaxedBelow plan look scheme w k)
      → slice_get plan.exchanges x ≡ Some e → e.to ≡ part
      → FitsInput plan valid vertices look fits w e (input_wave plan look x w (start_of plan look w) k).wave
  input_fits part w k x e provided relaxed at reader =
      let is = is_exchange plan valid x e at in
      let given : (need : Need) → Contains (needs plan e.to w k) need → IsSome (look need.owner need.item) =
      subst (λ (p : ℕ). (need : Need) → Contains (needs plan p w k) need → IsSome (look need.owner need.item)) (sym reader) provided.needed in
      let group : e.kind ≡ Iterated → group_of plan part ≡ Some e.scheme = λ kind. subst (λ (p : ℕ). group_of plan p ≡ Some e.scheme) reader (reader_group plan valid e is kind) in
      subst (λ (o : Option Exchange). FitsInput plan valid vertices look fits w e (option_map_or (λ e. input_by plan look e.kind e x w (start_of plan look w) k) o no_input).wave) (sym at)
      (by_kind e.kind x w k e at is (window_number plan (ends_made newest_time look (window_maker plan) (w - 1)) w provided.window).0 provided.iteration
      (given_for plan valid look e w k is given) (λ kind. provided.group e.scheme (group kind)) (λ kind. relaxed e.scheme is.scheme (group kind) is.stands))
