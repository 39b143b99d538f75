-- The ends of the windows that the first participant makes: one more with each window that it completes.
use Rattle.std.proofs.Common.{◌≡◌, ℕ, zero, suc, ◌+◌, ◌-◌, ◌<◌, ◌≤◌, inl, inr, List, [], ◌∷◌, ◌++◌, length, take, Option, Some, None, IsSome, is_some, option_map, option_to_list, append-nil, append_assoc, length-append, refl, sym, ap, subst, ◌∙◌, arith}
use Rattle.std.proofs.lemmas.Bool.{cases_lt, cases_eq}
use Rattle.std.proofs.lemmas.List.{take-append-le, length-take}
use Rattle.std.proofs.lemmas.Option.{none-some}
use Rattle.cpl_plan.specs.declared.words.Item.TheVariants.{Completed}
use Rattle.coupled_loop.specs.Given.{Gift, Look}
use Rattle.coupled_loop.specs.PlanFrames.{ends_made}

module _ {Post : Type 0} (newest : Post → ℕ) (maker : ℕ) where
  -- the same windows make the same ends
  pub ends_alike : (f g : Look Post) → ((v : ℕ) → g maker (Completed (suc v)) ≡ f maker (Completed (suc v))) → (n : ℕ) → ends_made newest g maker n ≡ ends_made newest f maker n
  ends_alike f g same zero = refl
  ends_alike f g same (suc n) =
      ap (λ ends. ends ++ option_to_list (option_map (λ gift. newest gift.post) (g maker (Completed (suc n))))) (ends_alike f g same n)
      ∙ ap (λ o. ends_made newest f maker n ++ option_to_list (option_map (λ gift. newest gift.post) o)) (same n)

  -- up to a window
  ends_upto : (f g : Look Post) (n : ℕ) → ((v : ℕ) → v < n → g maker (Completed (suc v)) ≡ f maker (Completed (suc v))) → ends_made newest g maker n ≡ ends_made newest f maker n
  ends_upto f g zero same = refl
  ends_upto f g (suc n) same =
      ap (λ ends. ends ++ option_to_list (option_map (λ gift. newest gift.post) (g maker (Completed (suc n))))) (ends_upto f g n (λ v below. same v (omega (arith, below))))
      ∙ ap (λ o. ends_made newest f maker n ++ option_to_list (option_map (λ gift. newest gift.post) o)) (same n (omega arith))

  one_end : (o : Option (Gift Post)) → IsSome o → length (option_to_list (option_map (λ gift. newest gift.post) o)) ≡ 1
  one_end (Some gift) some = refl
  one_end None some = cc

  -- after windows up to n there are n of them
  ends_count : (f : Look Post) (n : ℕ) → ((v : ℕ) → v < n → IsSome (f maker (Completed (suc v)))) → length (ends_made newest f maker n) ≡ n
  ends_count f zero all = refl
  ends_count f (suc n) all =
      length-append (ends_made newest f maker n) _
      ∙ ap (λ (m : ℕ). m + length (option_to_list (option_map (λ gift. newest gift.post) (f maker (Completed (suc n)))))) (ends_count f n (λ v below. all v (omega (arith, below))))
      ∙ ap (λ (m : ℕ). n + m) (one_end (f maker (Completed (suc n))) (all n (omega arith))) ∙ omega arith

  -- and no more after those that were completed
  ends_stay : (f : Look Post) (u : ℕ) → ((v : ℕ) → u ≤ v → f maker (Completed (suc v)) ≡ None) → (n : ℕ) → ends_made newest f maker (u + n) ≡ ends_made newest f maker u
  ends_stay f u none zero = (let same : u + 0 ≡ u = omega arith in ap (ends_made newest f maker) same)
  ends_stay f u none (suc n) =
      let next : u + suc n ≡ suc (u + n) = omega arith in
      ap (ends_made newest f maker) next
      ∙ ap (λ o. ends_made newest f maker (u + n) ++ option_to_list (option_map (λ gift. newest gift.post) o)) (none (u + n) (omega arith))
      ∙ append-nil (ends_made newest f maker (u + n)) ∙ ends_stay f u none n

pub take_all : {X : Type 0} (xs : List X) (n : ℕ) → length xs ≤ n → take n xs ≡ xs
take_all [] zero below = refl
take_all [] (suc n) below = refl
take_all (x ∷ xs) zero below = absurd (omega (arith, below))
take_all (x ∷ xs) (suc n) below = ap (λ ys. x ∷ ys) (take_all xs n (omega (arith, below)))

module _ {Post : Type 0} (newest : Post → ℕ) (maker : ℕ) (f : Look Post) where
  ends_begin : (n m : ℕ) → (more : List ℕ) × (ends_made newest f maker (n + m) ≡ ends_made newest f maker n ++ more)
  ends_begin n zero =
      let same : n + 0 ≡ n = omega arith in ([], ap (ends_made newest f maker) same ∙ sym (append-nil (ends_made newest f maker n)))
  ends_begin n (suc m) =
      let before = ends_begin n m in
      let next : n + suc m ≡ suc (n + m) = omega arith in
      let last : List ℕ = option_to_list (option_map (λ gift. newest gift.post) (f maker (Completed (suc (n + m))))) in
      (before.0 ++ last, ap (ends_made newest f maker) next ∙ ap (λ (ends : List ℕ). ends ++ last) before.1 ∙ append_assoc (ends_made newest f maker n) before.0 last)

  -- all ends of windows up to u, of which the first n are those of the first n windows
  pub ends_taken : (u : ℕ) → ((v : ℕ) → v < u → IsSome (f maker (Completed (suc v)))) → ((v : ℕ) → u ≤ v → f maker (Completed (suc v)) ≡ None)
      → (n : ℕ) → ends_made newest f maker n ≡ take n (ends_made newest f maker u)
  ends_taken u before none n = elim (cases_lt n u) [
    | inl less ↦
        let rest = ends_begin n (u - n) in
        let all : n + (u - n) ≡ u = omega (arith, less) in
        let many = ends_count newest maker f n (λ v below. before v (omega (arith, below, less))) in
        sym (ap (take n) (ap (ends_made newest f maker) (sym all) ∙ rest.1) ∙ take-append-le n (ends_made newest f maker n) rest.0 (omega (arith, many))
        ∙ take_all (ends_made newest f maker n) n (omega (arith, many)))
    | inr past ↦
        let all : n ≡ u + (n - u) = omega (arith, past) in
        let many = ends_count newest maker f u before in
        ap (ends_made newest f maker) all ∙ ends_stay newest maker f u none (n - u) ∙ sym (take_all (ends_made newest f maker u) n (omega (arith, many, past)))
  ]

module _ {Post : Type 0} (newest : Post → ℕ) (maker : ℕ) (f g : Look Post) (u : ℕ) (gift : Gift Post) (ends : List ℕ)
    (before : (v : ℕ) → v < u → IsSome (f maker (Completed (suc v)))) (none : (v : ℕ) → u ≤ v → f maker (Completed (suc v)) ≡ None)
    (same : (v : ℕ) → ¬ (v ≡ u) → g maker (Completed (suc v)) ≡ f maker (Completed (suc v))) (now : g maker (Completed (suc u)) ≡ Some gift)
    (told : (n : ℕ) → ends_made newest f maker n ≡ take n ends) where
  -- all ends so far
  all_ends : ends ≡ ends_made newest f maker u
  all_ends = sym (take_all ends (u + length ends) (omega arith)) ∙ sym (told (u + length ends)) ∙ ends_stay newest maker f u none (length ends)

  so_many : length ends ≡ u
  so_many = ap (λ (xs : List ℕ). length xs) all_ends ∙ ends_count newest maker f u before

  -- with the window after them there is one end more
  at_window : ends_made newest g maker (suc u) ≡ ends ++ newest gift.post ∷ []
  at_window =
      ap (λ xs. xs ++ option_to_list (option_map (λ one. newest one.post) (g maker (Completed (suc u)))))
      (ends_upto newest maker f g u (λ v below. same v (λ is. absurd (omega (arith, is, below)))) ∙ sym all_ends)
      ∙ ap (λ o. ends ++ option_to_list (option_map (λ one. newest one.post) o)) now

  none_after : (v : ℕ) → suc u ≤ v → g maker (Completed (suc v)) ≡ None
  none_after v past = same v (λ is. absurd (omega (arith, is, past))) ∙ none v (omega (arith, past))

  pub ends_more : (n : ℕ) → ends_made newest g maker n ≡ take n (ends ++ newest gift.post ∷ [])
  ends_more n = elim (cases_lt u n) [
    | inl further ↦
        let beyond : n ≡ suc u + (n - suc u) = omega (arith, further) in
        let long : length (ends ++ newest gift.post ∷ []) ≤ n = omega (arith, length-append ends (newest gift.post ∷ []), so_many, further) in
        ap (ends_made newest g maker) beyond ∙ ends_stay newest maker g (suc u) none_after (n - suc u) ∙ at_window ∙ sym (take_all (ends ++ newest gift.post ∷ []) n long)
    | inr within ↦
        ends_upto newest maker f g n (λ v below. same v (λ is. absurd (omega (arith, is, below, within)))) ∙ told n
        ∙ sym (take-append-le n ends (newest gift.post ∷ []) (omega (arith, within, so_many)))
  ]
