-- What a store answers is what an input has, by its kind.
use Rattle.std.proofs.Common.{◌≡◌, ℕ, ◌-◌, ◌≤◌, Bool, if◌then◌else◌, List, [], ◌∷◌, ◌++◌, Option, Some, None, option_map, ap, sym, ◌∙◌, arith}
use Rattle.std.proofs.lemmas.Bool.{ne_eqb}
use Rattle.std.proofs.lemmas.Option.{none-some, same_Some}
use Rattle.std.specs.Prelude.{slice_get}
use Rattle.waveform.specs.declared.field.Field.{Field}
use Rattle.cpl_plan.specs.declared.parts.PlanParts.{PlanParts}
use Rattle.cpl_plan.specs.declared.parts.Exchange.{Exchange}
use Rattle.cpl_plan.specs.declared.parts.Scheme.{Scheme}
use Rattle.cpl_plan.specs.declared.parts.Kind.TheVariants.{Lag, Fresh, FreshIter, Iterated}
use Rattle.cpl_plan.specs.declared.words.Item.TheVariants.{Completed, Posted}
use Rattle.coupled_loop.specs.Given.{Gift, Look, found}
use Rattle.sample_store.specs.Ends.{end_sample}
use Rattle.sample_store.specs.Held.{HoldsAccepted}
use Rattle.sample_store.specs.Kept.{Kept}
use Rattle.sample_store.specs.StandsFor.{StandsFor}
use Rattle.wave_coupling.specs.Posts.{Wave, Post}
use Rattle.wave_coupling.specs.InputWave.{sent_as, completed, accepted_before, iterated_samples, input_by}
use Rattle.group_course.specs.StoresTell.{StoreTells, gift_of}
use Rattle.group_course.proofs.StoreWords.{posted_is, start_is}
use Rattle.core_sides.specs.declared.event.Input.{Input}
use Rattle.core_takes.specs.Numbered.{input_told}

-- an input by its parts
abbrev pub input_with : (x window iteration : ℕ) → Wave → Input
input_with x window iteration wave = record { exchange = x; source_window = window; source_iteration = iteration; wave = wave }

input_same : (x window i j : ℕ) (a b : Wave) → i ≡ j → a ≡ b → input_with x window i a ≡ input_with x window j b
input_same x window i j a b one other = ap (λ (n : ℕ). input_with x window n a) one ∙ ap (λ (w : Wave). input_with x window j w) other

module _ (plan : PlanParts) (look : Look Post) (x : ℕ) (e : Exchange) (store : Kept) (tells : StoreTells plan look x e store) where
  wave_by : (o : Option (Gift Post)) (wave : Wave) → option_map (λ g. g.post) (option_map (gift_of plan e x) o) ≡ Some wave → (sent_as plan look e x o).wave ≡ wave
  wave_by None wave is = absurd (none-some wave is)
  wave_by (Some g) wave is = same_Some (gift_of plan e x g).post wave is

  iteration_by : (o : Option (Gift Post)) (n : ℕ) → option_map (λ g. g.iteration) (option_map (gift_of plan e x) o) ≡ Some n → (sent_as plan look e x o).iteration ≡ n
  iteration_by None n is = absurd (none-some n is)
  iteration_by (Some g) n is = same_Some g.iteration n is

  -- what was accepted for a window, and in which iteration
  pub accepted_is : (v : ℕ) (wave : Wave) → ((given : List (Gift Wave)) → StandsFor given store → option_map (λ g. g.post) (found given (Completed v)) ≡ Some wave)
      → (completed plan look e x v).wave ≡ wave
  accepted_is v wave answers =
      wave_by (look e.from (Completed v)) wave
      (ap (λ (o : Option (Gift Wave)). option_map (λ g. g.post) o) (sym (tells.tells (Completed v))) ∙ answers tells.given tells.stands)

  pub iteration_is : (v n : ℕ) → ((given : List (Gift Wave)) → StandsFor given store → option_map (λ g. g.iteration) (found given (Completed v)) ≡ Some n)
      → (completed plan look e x v).iteration ≡ n
  iteration_is v n answers =
      iteration_by (look e.from (Completed v)) n
      (ap (λ (o : Option (Gift Wave)). option_map (λ g. g.iteration) o) (sym (tells.tells (Completed v))) ∙ answers tells.given tells.stands)

  -- the newest iteration of a window that is accepted
  pub newest_iteration : (w : ℕ) → HoldsAccepted store.progress w → (completed plan look e x w).iteration ≡ store.progress.iteration
  newest_iteration w held =
      iteration_is w store.progress.iteration
      (λ given stands. ap (λ (v : ℕ). option_map (λ g. g.iteration) (found given (Completed v))) held.1 ∙ ap (λ (o : Option (Gift Wave)). option_map (λ g. g.iteration) o) (stands.accepted held.0))

  module _ (w start : ℕ) (field : Field) (end : (given : List (Gift Wave)) → StandsFor given store → option_map (λ s. s.field) (end_sample given (w - 1)) ≡ Some field) where
    led : (samples wave : Wave) → wave ≡ record { time = start; field = field } ∷ samples → wave ≡ accepted_before plan look e x w start ++ samples
    led samples wave is = is ∙ ap (λ (first : Wave). first ++ samples) (sym (start_is plan look x e store tells w start field end))

    pub lag_is : (k iteration : ℕ) (wave : Wave) → ((given : List (Gift Wave)) → StandsFor given store → option_map (λ g. g.iteration) (found given (Completed (w - 1))) ≡ Some iteration)
        → wave ≡ record { time = start; field = field } ∷ [] → input_with x (w - 1) iteration wave ≡ input_told x (input_by plan look Lag e x w start k)
    lag_is k iteration wave answers is =
        input_same x (w - 1) iteration (completed plan look e x (w - 1)).iteration wave (accepted_before plan look e x w start)
        (sym (iteration_is (w - 1) iteration answers)) (is ∙ sym (start_is plan look x e store tells w start field end))

    -- in its window's first iteration an iterated exchange lags
    pub first_is : (k : ℕ) → k ≡ 1 → input_told x (input_by plan look Lag e x w start k) ≡ input_told x (input_by plan look Iterated e x w start k)
    first_is k one = ap (λ (n : ℕ). input_told x (input_by plan look Lag e x w start n)) one ∙ ap (λ (n : ℕ). input_told x (input_by plan look Iterated e x w start n)) (sym one)

    pub fresh_is : (k : ℕ) (samples wave : Wave) → HoldsAccepted store.progress w
        → ((given : List (Gift Wave)) → StandsFor given store → option_map (λ g. g.post) (found given (Completed w)) ≡ Some samples)
        → wave ≡ record { time = start; field = field } ∷ samples → input_with x w store.progress.iteration wave ≡ input_told x (input_by plan look Fresh e x w start k)
    fresh_is k samples wave held answers is =
        input_same x w store.progress.iteration (completed plan look e x w).iteration wave (accepted_before plan look e x w start ++ (completed plan look e x w).wave)
        (sym (newest_iteration w held)) (led samples wave is ∙ ap (λ (ws : Wave). accepted_before plan look e x w start ++ ws) (sym (accepted_is w samples answers)))

    pub fresh_iter_is : (k : ℕ) (samples wave : Wave)
        → ((given : List (Gift Wave)) → StandsFor given store → found given (Posted w k) ≡ Some (record { item = Posted w k; iteration = k; post = samples }))
        → wave ≡ record { time = start; field = field } ∷ samples → input_with x w k wave ≡ input_told x (input_by plan look FreshIter e x w start k)
    fresh_iter_is k samples wave answers is =
        ap (λ (ws : Wave). input_with x w k ws)
        (led samples wave is ∙ ap (λ (ws : Wave). accepted_before plan look e x w start ++ ws) (sym (posted_is plan look x e store tells w k samples answers)))

    pub repeated_is : (k : ℕ) (scheme : Scheme) (samples wave : Wave) → 2 ≤ k → slice_get plan.schemes e.scheme ≡ Some scheme
        → iterated_samples plan look e x w start (k - 1) (Some scheme) ≡ samples
        → wave ≡ record { time = start; field = field } ∷ samples → input_with x w (k - 1) wave ≡ input_told x (input_by plan look Iterated e x w start k)
    repeated_is k scheme samples wave more at same is =
        ap (λ (ws : Wave). input_with x w (k - 1) ws)
        (led samples wave is ∙ ap (λ (ws : Wave). accepted_before plan look e x w start ++ ws)
        (sym same ∙ ap (λ (o : Option Scheme). iterated_samples plan look e x w start (k - 1) o) (sym at)))
        ∙ ap (λ (b : Bool). input_told x (
        if b then record { source_window = w - 1; source_iteration = (completed plan look e x (w - 1)).iteration; wave = accepted_before plan look e x w start }
        else record { source_window = w; source_iteration = k - 1; wave = accepted_before plan look e x w start ++ iterated_samples plan look e x w start (k - 1) (slice_get plan.schemes e.scheme) }
        )) (sym (ne_eqb k 1 (λ one. absurd (omega (arith, one, more)))))
