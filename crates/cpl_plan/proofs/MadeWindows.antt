-- Windows that the first participant has made, one after another.
use Rattle.std.proofs.Common.{◌≡◌, ℕ, zero, suc, ◌+◌, ◌-◌, ◌<◌, ◌≤◌, ◌⊎◌, inl, inr, true, false, ◌&&◌, nat_lt, nat_le, cond, List, [], ◌∷◌, ◌++◌, length, refl, ap, sym, subst, ◌∙◌, arith, min}
use Rattle.std.specs.Prelude.{Some, None, slice_get}
use Rattle.std.specs.Option.{option_map_or}
use Rattle.std.proofs.lemmas.Bool.{cases_Bool}
use Rattle.std.proofs.lemmas.Option.{slice_get_within}
use Rattle.cpl_plan.specs.Windows.{window_start, is_window, window_end, latest_end, start_by, end_by, MayEnd, AreMade}
use Rattle.cpl_plan.specs.declared.parts.PlanParts.{PlanParts}
use Rattle.cpl_plan.specs.declared.parts.WindowMethod.{WindowMethod}
use Rattle.cpl_plan.specs.declared.parts.WindowMethod.TheVariants.{Fixed, FirstParticipant}
use Rattle.cpl_plan.proofs.FixedWindows.{none_some, same_some, window_number, no_start}
use Rattle.cpl_plan.proofs.Readings.{there}

front : (xs ys : List ℕ) (k : ℕ) → k < length xs → slice_get (xs ++ ys) k ≡ slice_get xs k
front [] ys k below = absurd (omega (arith, below))
front (x ∷ xs) ys zero below = refl
front (x ∷ xs) ys (suc k) below = front xs ys k (omega (arith, below))

split : (xs : List ℕ) (k x : ℕ) → slice_get xs k ≡ Some x → (before : List ℕ) × (after : List ℕ) × (xs ≡ before ++ x ∷ after) × (length before ≡ k)
split [] k x is = absurd (none_some is)
split (y ∷ xs) zero x is = let same : y ≡ x = same_some is in ([], xs, ap (λ z. z ∷ xs) same, refl)
split (y ∷ xs) (suc k) x is =
    let rest = split xs k x is in
    (y ∷ rest.0, rest.1, ap (λ zs. y ∷ zs) rest.2, ap suc rest.3)

start_stays : (method : WindowMethod) (size : ℕ) (ends more : List ℕ) (w : ℕ) → w ≤ length ends + 1 → start_by method size (ends ++ more) w ≡ start_by method size ends w
start_stays method size ends more zero within = no_start method size (ends ++ more) ∙ sym (no_start method size ends)
start_stays Fixed size ends more (suc k) within = refl
start_stays FirstParticipant size ends more (suc zero) within = refl
start_stays FirstParticipant size ends more (suc (suc k)) within = front ends more k (omega (arith, within))

end_stays : (method : WindowMethod) (size end_time : ℕ) (ends more : List ℕ) (w : ℕ) → 1 ≤ w → w ≤ length ends → end_by method size end_time (ends ++ more) w ≡ end_by method size end_time ends w
end_stays Fixed size end_time ends more w one within = refl
end_stays FirstParticipant size end_time ends more w one within = front ends more (w - 1) (omega (arith, one, within))

module _ (plan : PlanParts) where
  -- what is told of a window stays told
  pub starts_stay : (ends more : List ℕ) (w : ℕ) → w ≤ length ends + 1 → window_start plan (ends ++ more) w ≡ window_start plan ends w
  starts_stay ends more w within = start_stays plan.method plan.window ends more w within

  pub windows_stay : (ends more : List ℕ) (w : ℕ) → w ≤ length ends + 1 → is_window plan (ends ++ more) w ≡ is_window plan ends w
  windows_stay ends more w within =
      ap (λ o. nat_le w plan.most_windows && option_map_or (λ start. nat_lt start plan.end_time) o false) (starts_stay ends more w within)

  pub ends_stay : (ends more : List ℕ) (w : ℕ) → 1 ≤ w → w ≤ length ends → window_end plan (ends ++ more) w ≡ window_end plan ends w
  ends_stay ends more w one within =
      ap (λ b. cond b (end_by plan.method plan.window plan.end_time (ends ++ more) w) None) (windows_stay ends more w (omega (arith, within)))
      ∙ ap (λ o. cond (is_window plan ends w) o None) (end_stays plan.method plan.window plan.end_time ends more w one within)

  -- an end that was made, in the list of all
  pub made_at : (ends : List ℕ) → AreMade plan ends → (k end : ℕ) → slice_get ends k ≡ Some end
      → (start : ℕ) × (window_start plan ends (k + 1) ≡ Some start) × (is_window plan ends (k + 1) ≡ true) × (start < end) × (end ≤ latest_end plan start)
  made_at ends made k end is =
      let parts = split ends k end is in
      let may = made parts.0 parts.1 end parts.2 in
      let w : length parts.0 + 1 ≡ k + 1 = ap (λ n. n + 1) parts.3 in
      let all : parts.0 ++ end ∷ parts.1 ≡ ends = sym parts.2 in
      let starts : window_start plan ends (k + 1) ≡ Some may.start =
      subst (λ (xs : List ℕ). window_start plan xs (k + 1) ≡ Some may.start) all
      (subst (λ (v : ℕ). window_start plan (parts.0 ++ end ∷ parts.1) v ≡ Some may.start) w (starts_stay parts.0 (end ∷ parts.1) (length parts.0 + 1) (omega (arith)) ∙ may.starts)) in
      let is_there : is_window plan ends (k + 1) ≡ true =
      subst (λ (xs : List ℕ). is_window plan xs (k + 1) ≡ true) all
      (subst (λ (v : ℕ). is_window plan (parts.0 ++ end ∷ parts.1) v ≡ true) w (windows_stay parts.0 (end ∷ parts.1) (length parts.0 + 1) (omega (arith)) ∙ may.there)) in
      (may.start, starts, is_there, may.later, may.in_time)

  pub none_made : AreMade plan []
  none_made [] after end is = absurd (empty is)
    where
      empty : {x : ℕ} {xs : List ℕ} → [] ≡ x ∷ xs → ⊥
      empty e = cc
  none_made (x ∷ before) after end is = absurd (empty is)
    where
      empty : {x : ℕ} {xs : List ℕ} → [] ≡ x ∷ xs → ⊥
      empty e = cc

  pub more_made : (ends : List ℕ) (end : ℕ) → AreMade plan ends → MayEnd plan ends end → AreMade plan (ends ++ end ∷ [])
  more_made ends end made may before after other is =
      elim (last_or_before ends before after end other is) [
        | inl last ↦ subst (λ (xs : List ℕ). MayEnd plan xs other) last.0 (subst (λ (e : ℕ). MayEnd plan ends e) last.1 may)
        | inr earlier ↦ made before earlier.0 other earlier.1
      ]
    where
      nil_cons : {x : ℕ} {xs : List ℕ} → [] ≡ x ∷ xs → ⊥
      nil_cons e = cc

      no_room : (before after : List ℕ) (other : ℕ) → [] ≡ before ++ other ∷ after → ⊥
      no_room [] after other e = nil_cons e
      no_room (x ∷ before) after other e = nil_cons e

      last_or_before : (ends before after : List ℕ) (end other : ℕ) → ends ++ end ∷ [] ≡ before ++ other ∷ after
          → ((ends ≡ before) × (end ≡ other)) ⊎ ((rest : List ℕ) × (ends ≡ before ++ other ∷ rest))
      last_or_before [] [] after end other e = let same : end ≡ other = cc in inl (refl, same)
      last_or_before [] (x ∷ before) after end other e =
          let rest : [] ≡ before ++ other ∷ after = cc in absurd (no_room before after other rest)
      last_or_before (y ∷ ends) [] after end other e = let same : y ≡ other = cc in inr (ends, ap (λ z. z ∷ ends) same)
      last_or_before (y ∷ ends) (x ∷ before) after end other e =
          let same : y ≡ x = cc in
          let rest : ends ++ end ∷ [] ≡ before ++ other ∷ after = cc in
          elim (last_or_before ends before after end other rest) [
            | inl last ↦ let all : y ∷ ends ≡ x ∷ before = ap (λ z. z ∷ ends) same ∙ ap (λ zs. x ∷ zs) last.0 in inl (all, last.1)
            | inr earlier ↦
                let all : y ∷ ends ≡ x ∷ before ++ other ∷ earlier.0 = ap (λ z. z ∷ ends) same ∙ ap (λ zs. x ∷ zs) earlier.1 in inr (earlier.0, all)
          ]

module _ (plan : PlanParts) (method : plan.method ≡ FirstParticipant) where
  -- an end that is told is in the list
  told_end : (ends : List ℕ) (w end : ℕ) → window_end plan ends w ≡ Some end → (1 ≤ w) × (slice_get ends (w - 1) ≡ Some end)
  told_end ends w end is =
      elim (cases_Bool (is_window plan ends w)) [
        | inl holds ↦ (
          (window_number plan ends w holds).0,
          sym (ap (λ m. end_by m plan.window plan.end_time ends w) method)
              ∙ sym (ap (λ b. cond b (end_by plan.method plan.window plan.end_time ends w) None) holds) ∙ is,
        )
        | inr fails ↦ absurd (none_some (sym (ap (λ b. cond b (end_by plan.method plan.window plan.end_time ends w) None) fails) ∙ is))
      ]

  start_after : (ends : List ℕ) (k : ℕ) → window_start plan ends (suc (suc k)) ≡ slice_get ends k
  start_after ends k = ap (λ m. start_by m plan.window ends (suc (suc k))) method

  pub made_joins : (ends : List ℕ) (w end : ℕ) → window_end plan ends w ≡ Some end → window_start plan ends (w + 1) ≡ Some end
  made_joins ends w end is = of w (told_end ends w end is)
    where
      of : (v : ℕ) → (1 ≤ v) × (slice_get ends (v - 1) ≡ Some end) → window_start plan ends (v + 1) ≡ Some end
      of zero told = absurd (omega (arith, told.0))
      of (suc k) told =
          let up : suc k + 1 ≡ suc (suc k) = omega (arith) in
          let down : suc k - 1 ≡ k = omega (arith) in
          ap (window_start plan ends) up ∙ start_after ends k ∙ ap (slice_get ends) (sym down) ∙ told.1

  module _ (ends : List ℕ) (made : AreMade plan ends) where
    pub made_there : (w : ℕ) → 1 ≤ w → w ≤ length ends → is_window plan ends w ≡ true
    made_there zero one within = absurd (omega (arith, one))
    made_there (suc k) one within =
        let end = there ends k (omega (arith, within)) in
        let up : k + 1 ≡ suc k = omega (arith) in
        subst (λ (v : ℕ). is_window plan ends v ≡ true) up (made_at plan ends made k end.0 end.1).2

    pub made_end : (w : ℕ) → 1 ≤ w → w ≤ length ends → window_end plan ends w ≡ slice_get ends (w - 1)
    made_end w one within =
        ap (λ b. cond b (end_by plan.method plan.window plan.end_time ends w) None) (made_there w one within)
        ∙ ap (λ m. end_by m plan.window plan.end_time ends w) method

    pub made_late : (w start end : ℕ) → window_start plan ends w ≡ Some start → window_end plan ends w ≡ Some end → (start < end) × (end ≤ latest_end plan start)
    made_late w start end starts ended =
        let told = told_end ends w end ended in
        let one = made_at plan ends made (w - 1) end told.1 in
        let up : w - 1 + 1 ≡ w = omega (arith, told.0) in
        let same : one.0 ≡ start = same_some (sym one.1 ∙ ap (window_start plan ends) up ∙ starts) in
        subst (λ (s : ℕ). (s < end) × (end ≤ latest_end plan s)) same (one.3, one.4)

    pub made_in_time : (w end : ℕ) → window_end plan ends w ≡ Some end → end ≤ plan.end_time
    made_in_time w end ended =
        let told = told_end ends w end ended in
        let one = made_at plan ends made (w - 1) end told.1 in
        let late : end ≤ min (one.0 + plan.window) plan.end_time = one.4 in
        omega (arith, late)

    -- each end is after the one before it
    step : (k a b : ℕ) → slice_get ends k ≡ Some a → slice_get ends (suc k) ≡ Some b → a < b
    step k a b one other =
        let next = made_at plan ends made (suc k) b other in
        let up : suc k + 1 ≡ suc (suc k) = omega (arith) in
        let same : next.0 ≡ a = same_some (sym next.1 ∙ ap (window_start plan ends) up ∙ start_after ends k ∙ one) in
        subst (λ (s : ℕ). s < b) same next.3

    rises : (d k a b : ℕ) → slice_get ends k ≡ Some a → slice_get ends (suc k + d) ≡ Some b → a < b
    rises zero k a b one other =
        let down : suc k + 0 ≡ suc k = omega (arith) in
        step k a b one (subst (λ (j : ℕ). slice_get ends j ≡ Some b) down other)
    rises (suc d) k a b one other =
        let within = slice_get_within ends (suc k + suc d) b other in
        let middle = there ends (suc k + d) (omega (arith, within)) in
        let up : suc k + suc d ≡ suc (suc k + d) = omega (arith) in
        let last = step (suc k + d) middle.0 b middle.1 (subst (λ (j : ℕ). slice_get ends j ≡ Some b) up other) in
        let before = rises d k a middle.0 one middle.1 in
        omega (arith, last, before)

    pub ends_rise : (v w a b : ℕ) → v < w → window_end plan ends v ≡ Some a → window_end plan ends w ≡ Some b → a < b
    ends_rise v w a b less one other =
        let first = told_end ends v a one in
        let second = told_end ends w b other in
        let up : w - 1 ≡ suc (v - 1) + (w - v - 1) = omega (arith, less, first.0) in
        rises (w - v - 1) (v - 1) a b first.1 (subst (λ (j : ℕ). slice_get ends j ≡ Some b) up second.1)

    pub starts_rise : (v w a b : ℕ) → v < w → window_start plan ends v ≡ Some a → window_start plan ends w ≡ Some b → a < b
    starts_rise v zero a b less one other = absurd (omega (arith, less))
    starts_rise zero (suc w) a b less one other = absurd (none_some (sym (no_start plan.method plan.window ends) ∙ one))
    starts_rise (suc v) (suc zero) a b less one other = absurd (omega (arith, less))
    starts_rise (suc zero) (suc (suc w)) a b less one other =
        let zero_start : a ≡ 0 = same_some (sym one ∙ ap (λ m. start_by m plan.window ends 1) method) in
        let at : slice_get ends w ≡ Some b = sym (start_after ends w) ∙ other in
        let end = made_at plan ends made w b at in
        omega (arith, zero_start, end.3)
    starts_rise (suc (suc v)) (suc (suc w)) a b less one other =
        let up : w ≡ suc v + (w - v - 1) = omega (arith, less) in
        rises (w - v - 1) v a b (sym (start_after ends v) ∙ one) (subst (λ (j : ℕ). slice_get ends j ≡ Some b) up (sym (start_after ends w) ∙ other))
