-- What a store keeps stands for the list with one gift more.
use Rattle.std.proofs.Common.{◌≡◌, ℕ, ◌+◌, ◌≤◌, Bool, true, false, inl, inr, List, [], ◌∷◌, ◌++◌, Option, Some, None, option_map, refl, sym, ap, subst, ◌∙◌, arith}
use Rattle.std.proofs.lemmas.Option.{none-some, same_Some}
use Rattle.cpl_plan.specs.declared.words.Item.TheVariants.{Completed, Posted}
use Rattle.coupled_loop.specs.Given.{Gift, found, gives, accepts}
use Rattle.waveform.specs.declared.sample.Sample.{Sample}
use Rattle.sample_store.specs.declared.store.Iterate.{Iterate}
use Rattle.sample_store.specs.ProgressOf.{progress_after}
use Rattle.sample_store.specs.NextTurn.{next_turn}
use Rattle.sample_store.specs.Ends.{WindowEnd, end_of_wave, window_end}
use Rattle.sample_store.specs.Kept.{Kept}
use Rattle.sample_store.specs.KeptSteps.{newest_kept, in_next_window, in_next_iteration, after_acceptance}
use Rattle.sample_store.specs.StandsFor.{posted, completed, StandsFor}
use Rattle.sample_store.proofs.Looks.{last_at_end, found_stays, found_new}
use Rattle.sample_store.proofs.Orders.{window_in_order, iteration_in_order, acceptance_in_order, accepts_found}

-- an end that was given stays
end_stays : (given : List (Gift (List Sample))) (gift : Gift (List Sample)) (v : ℕ) (end : WindowEnd) → window_end given v ≡ Some end
    → window_end (given ++ gift ∷ []) v ≡ Some end
end_stays given gift v end is = by (found given (Completed v)) refl is where
  by : (o : Option (Gift (List Sample))) → found given (Completed v) ≡ o → option_map (λ g. end_of_wave g.iteration g.post) o ≡ Some end
      → window_end (given ++ gift ∷ []) v ≡ Some end
  by (Some one) e here = ap (option_map (λ g. end_of_wave g.iteration g.post)) (found_stays given (gift ∷ []) (Completed v) one e) ∙ here
  by None e here = absurd (none-some end here)

-- what is kept, where the newest window is accepted or not
abbrev judged : Kept → Bool → Kept
judged kept accepted = record kept { progress = record kept.progress { is_accepted = accepted } }

module _ (given : List (Gift (List Sample))) (kept : Kept) (wave : List Sample) where
  abbrev W : ℕ
  W = kept.progress.window

  abbrev N : ℕ
  N = kept.progress.iteration

  abbrev first_post : Gift (List Sample)
  first_post = record { item = Posted (W + 1) 1; iteration = 1; post = wave }

  abbrev next_post : Gift (List Sample)
  next_post = record { item = Posted W (N + 1); iteration = N + 1; post = wave }

  window_stands : StandsFor given (judged kept true) → StandsFor (gives (Posted (W + 1) 1) 1 wave given) (in_next_window kept (W + 1) wave)
  window_stands stands = record {
    progress = ap (option_map progress_after) (last_at_end None given first_post);
    order = window_in_order given W N wave stands.order;
    newest = λ h. found_new given first_post (Posted (W + 1) 1) (stands.order.later (Posted (W + 1) 1) (inl (omega arith))) refl;
    accepted = λ e. cc;
    previous = λ one e. absurd (none-some one e);
    last = λ v end before e. let here : W ≡ v = omega arith in
        end_stays given first_post v end
        (subst (λ (u : ℕ). window_end given u ≡ Some end) here
        (ap (option_map (λ g. end_of_wave g.iteration g.post)) (stands.accepted refl) ∙ e));
    older = λ v end before e. end_stays given first_post v end (stands.last v end (omega arith) e);
  }

  iteration_stands : StandsFor given (judged kept false) → StandsFor (gives (Posted W (N + 1)) (N + 1) wave given) (in_next_iteration kept (N + 1) wave)
  iteration_stands stands =
      let turn = stands.order.turns W N (stands.order.newest refl) in
      record {
        progress = ap (option_map progress_after) (last_at_end None given next_post);
        order = iteration_in_order given W N wave stands.order;
        newest = λ h. found_new given next_post (Posted W (N + 1)) (stands.order.later (Posted W (N + 1)) (inr (refl, omega arith))) refl;
        accepted = λ e. cc;
        previous = λ one e. found_stays given (next_post ∷ []) (Posted W one.iteration) (posted W one)
            (subst (λ (x : Iterate). found given (Posted W x.iteration) ≡ Some (posted W x)) (same_Some (newest_kept kept) one e) (stands.newest turn.1));
        last = λ v end before e. end_stays given next_post v end (stands.last v end before e);
        older = λ v end before e. end_stays given next_post v end (stands.older v end before e);
      }

module _ (given : List (Gift (List Sample))) (kept : Kept) (stands : StandsFor given (judged kept false)) where
  abbrev window : ℕ
  window = kept.progress.window

  abbrev iteration : ℕ
  iteration = kept.progress.iteration

  abbrev acceptance : Gift (List Sample)
  acceptance = completed window (newest_kept kept)

  turn : (1 ≤ window) × (1 ≤ iteration)
  turn = let t = stands.order.turns window iteration (stands.order.newest refl) in (t.0, t.1)

  accepted_stands : StandsFor (accepts window iteration given) (after_acceptance kept)
  accepted_stands =
      let some = turn.0 in
      let one = stands.newest turn.1 in
      subst (λ (all : List (Gift (List Sample))). StandsFor all (after_acceptance kept)) (sym (accepts_found given window iteration (posted window (newest_kept kept)) one))
      (record {
        progress = ap (option_map progress_after) (last_at_end None given acceptance);
        order = acceptance_in_order given window iteration (posted window (newest_kept kept)) stands.order one;
        newest = λ h. found_stays given (acceptance ∷ []) (Posted window iteration) (posted window (newest_kept kept)) one;
        accepted = λ e. found_new given acceptance (Completed window) (stands.order.later (Completed window) (omega arith)) refl;
        previous = λ one e. found_stays given (acceptance ∷ []) (Posted window one.iteration) (posted window one) (stands.previous one e);
        last = λ v end before e. end_stays given acceptance v end (stands.last v end before e);
        older = λ v end before e. absurd (none-some end e);
      })

module _ (given : List (Gift (List Sample))) (kept : Kept) (stands : StandsFor given kept) where
  known : (b : Bool) → kept.progress.is_accepted ≡ b → StandsFor given (judged kept b)
  known b is = subst (λ (a : Bool). StandsFor given (judged kept a)) is stands

  turn_is : (b : Bool) (w k : ℕ) → kept.progress.is_accepted ≡ b → next_turn kept.progress ≡ (w, k) → next_turn (judged kept b).progress ≡ (w, k)
  turn_is b w k is next = ap (λ (a : Bool). next_turn (judged kept a).progress) (sym is) ∙ next

  -- with the first post of the next window
  pub next_window_stands : (w k : ℕ) (wave : List Sample) → kept.progress.is_accepted ≡ true → next_turn kept.progress ≡ (w, k)
      → StandsFor (gives (Posted w k) k wave given) (in_next_window kept w wave)
  next_window_stands w k wave is next =
      subst (λ (t : ℕ × ℕ). StandsFor (gives (Posted t.0 t.1) t.1 wave given) (in_next_window kept t.0 wave))
      (turn_is true w k is next) (window_stands given kept wave (known true is))

  -- with the next post of the same window
  pub next_iteration_stands : (w k : ℕ) (wave : List Sample) → kept.progress.is_accepted ≡ false → next_turn kept.progress ≡ (w, k)
      → StandsFor (gives (Posted w k) k wave given) (in_next_iteration kept k wave)
  next_iteration_stands w k wave is next =
      subst (λ (t : ℕ × ℕ). StandsFor (gives (Posted t.0 t.1) t.1 wave given) (in_next_iteration kept t.1 wave))
      (turn_is false w k is next) (iteration_stands given kept wave (known false is))

  -- with the newest post accepted
  pub acceptance_stands : (w : ℕ) → kept.progress.window ≡ w → kept.progress.is_accepted ≡ false
      → StandsFor (accepts w kept.progress.iteration given) (after_acceptance kept)
  acceptance_stands w newest is =
      subst (λ (v : ℕ). StandsFor (accepts v kept.progress.iteration given) (after_acceptance kept)) newest
      (accepted_stands given kept (known false is))
