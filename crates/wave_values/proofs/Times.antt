-- When windows start and end, as far as is told, and where the maker of windows ends one.
use Rattle.std.proofs.Common.{◌≡◌, ◌⊎◌, inl, inr, ℕ, zero, suc, ◌-◌, ◌<◌, ◌≤◌, Bool, true, false, ◌&&◌, nat_lt, nat_le, cond, List, [], ◌∷◌, ◌++◌, length, slice_get, Option, Some, None, IsSome, IsTrue, refl, ap, sym, subst, ◌∙◌, arith, length-append}
use Rattle.std.specs.Prelude.{option_map, option_to_list}
use Rattle.std.specs.Option.{option_map_or}
use Rattle.std.proofs.lemmas.Bool.{and_parts, and_from, leb-true, le-leb, ltb-true, lt-ltb, false≢true}
use Rattle.std.proofs.lemmas.Option.{none-some}
use Rattle.cpl_plan.specs.Windows.{start_by, end_by, window_start, is_window}
use Rattle.cpl_plan.specs.declared.parts.PlanParts.{PlanParts}
use Rattle.cpl_plan.specs.declared.parts.WindowMethod.{WindowMethod}
use Rattle.cpl_plan.specs.declared.parts.WindowMethod.TheVariants.{Fixed, FirstParticipant}
use Rattle.cpl_plan.specs.declared.words.Item.TheVariants.{Completed}
use Rattle.cpl_plan.proofs.FixedWindows.{window_number}
use Rattle.coupled_loop.specs.Given.{Gift, Look}
use Rattle.coupled_loop.specs.Settled.{Extends, IsInOrder}
use Rattle.coupled_loop.specs.PlanFrames.{ends_made, window_maker, is_told}
use Rattle.wave_coupling.specs.Posts.{Post, newest_time}
use Rattle.wave_coupling.specs.Coupling.{start_of}
use Rattle.wave_laws.specs.Fitting.{end_told}
use Rattle.wave_laws.proofs.Stills.{got_still, start_still}

passing : {X : Type 0} (test : X → Bool) (o : Option X) → option_map_or test o false ≡ true → (x : X) × (o ≡ Some x) × (test x ≡ true)
passing test None is = absurd (false≢true is)
passing test (Some x) is = (x, refl, is)

module _ (plan : PlanParts) where
  abbrev ends_of : Look Post → (w : ℕ) → List ℕ
  ends_of f w = ends_made newest_time f (window_maker plan) w

  -- a window that is there starts before the end time
  start_there : (f : Look Post) (v : ℕ) → window_start plan (ends_of f (suc v)) (suc v) ≡ window_start plan (ends_of f v) (suc v) ⊎ (window_start plan (ends_of f v) (suc v) ≡ None)
  start_there f v = by plan.method refl v
    where
      last : ℕ → List ℕ
      last n = option_to_list (option_map (λ gift. newest_time gift.post) (f (window_maker plan) (Completed (suc n))))

      slice_by : (b : ℕ) (o : Option ℕ) → slice_get (ends_of f (suc b)) b ≡ o → (slice_get (ends_of f (suc b) ++ last (suc b)) b ≡ o) ⊎ (o ≡ None)
      slice_by b None at = inr refl
      slice_by b (Some end) at = inl (got_still (ends_of f (suc b)) (last (suc b)) b end at)

      by : (m : WindowMethod) → plan.method ≡ m → (n : ℕ)
          → (window_start plan (ends_of f (suc n)) (suc n) ≡ window_start plan (ends_of f n) (suc n)) ⊎ (window_start plan (ends_of f n) (suc n) ≡ None)
      by Fixed is n =
          inl (ap (λ m. start_by m plan.window (ends_of f (suc n)) (suc n)) is ∙ sym (ap (λ m. start_by m plan.window (ends_of f n) (suc n)) is))
      by FirstParticipant is zero =
          inl (ap (λ m. start_by m plan.window (ends_of f 1) 1) is ∙ sym (ap (λ m. start_by m plan.window (ends_of f 0) 1) is))
      by FirstParticipant is (suc b) =
          elim (slice_by b (slice_get (ends_of f (suc b)) b) refl) [
            | inl same ↦ inl (ap (λ m. start_by m plan.window (ends_of f (suc (suc b))) (suc (suc b))) is ∙ same ∙ sym (ap (λ m. start_by m plan.window (ends_of f (suc b)) (suc (suc b))) is))
            | inr none ↦ inr (ap (λ m. start_by m plan.window (ends_of f (suc b)) (suc (suc b))) is ∙ none)
          ]

  pub early_by : (f : Look Post) (v : ℕ) → is_window plan (ends_of f v) (suc v) ≡ true
      → (s : ℕ) × (window_start plan (ends_of f (suc v)) (suc v) ≡ Some s) × (s < plan.end_time) × (suc v ≤ plan.most_windows)
  early_by f v there =
      let both = and_parts (nat_le (suc v) plan.most_windows) (option_map_or (λ start. nat_lt start plan.end_time) (window_start plan (ends_of f v) (suc v)) false) there in
      let some = passing (λ start. nat_lt start plan.end_time) (window_start plan (ends_of f v) (suc v)) both.1 in
      elim (start_there f v) [
        | inl same ↦ (some.0, same ∙ some.1, ltb-true some.0 plan.end_time some.2, leb-true (suc v) plan.most_windows both.0)
        | inr none ↦ absurd (none-some some.0 (sym none ∙ some.1))
      ]

  pub early : (f : Look Post) (w : ℕ) → IsTrue (is_told plan newest_time f w)
      → (s : ℕ) × (window_start plan (ends_of f w) w ≡ Some s) × (s < plan.end_time) × (w ≤ plan.most_windows)
  early f w there =
      let one : w ≡ suc (w - 1) = let first = (window_number plan (ends_of f (w - 1)) w there).0 in omega (arith, first) in
      subst (λ (n : ℕ). (s : ℕ) × (window_start plan (ends_of f n) n ≡ Some s) × (s < plan.end_time) × (n ≤ plan.most_windows)) (sym one)
      (early_by f (w - 1) (subst (λ (n : ℕ). is_window plan (ends_of f (w - 1)) n ≡ true) one there))

  -- it is there, with all ends that are told, in each later look
  pub still_there : (f g : Look Post) → Extends f g → IsInOrder f → (w : ℕ) → IsTrue (is_told plan newest_time f w) → is_window plan (ends_of g w) w ≡ true
  still_there f g extends order w there =
      let one = early f w there in
      ap (λ o. nat_le w plan.most_windows && option_map_or (λ start. nat_lt start plan.end_time) o false) (sym (start_still plan newest_time f g extends order w there) ∙ one.1)
      ∙ and_from (nat_le w plan.most_windows) (nat_lt one.0 plan.end_time) (le-leb w plan.most_windows one.3) (lt-ltb one.0 plan.end_time one.2)

  pub same_start : (f g : Look Post) → Extends f g → IsInOrder f → (w : ℕ) → IsTrue (is_told plan newest_time f w) → start_of plan f w ≡ start_of plan g w
  same_start f g extends order w there = ap (λ (o : Option ℕ). option_map_or (λ start. start) o 0) (start_still plan newest_time f g extends order w there)

  pub start_early : (f : Look Post) (w : ℕ) → IsTrue (is_told plan newest_time f w) → start_of plan f w < plan.end_time
  start_early f w there =
      let one = early f w there in
      let same : start_of plan f w ≡ one.0 = ap (λ (o : Option ℕ). option_map_or (λ start. start) o 0) one.1 in omega (arith, same, one.2)

  -- the maker has made as many ends as it has completed windows
  is_there_gift : (o : Option (Gift Post)) → IsSome o → (gift : Gift Post) × (o ≡ Some gift)
  is_there_gift None is = absurd (false≢true is)
  is_there_gift (Some gift) is = (gift, refl)

  as_many_ends : (g : Look Post) → IsInOrder g → (v : ℕ) → IsSome (g (window_maker plan) (Completed v)) → length (ends_of g v) ≡ v
  as_many_ends g order zero is = refl
  as_many_ends g order (suc v) is =
      let gift = is_there_gift (g (window_maker plan) (Completed (suc v))) is in
      let before = as_many_ends g order v (order.windows (window_maker plan) v is) in
      ap (λ (o : Option (Gift Post)). length (ends_of g v ++ option_to_list (option_map (λ gift. newest_time gift.post) o))) gift.1
      ∙ length-append (ends_of g v) (newest_time gift.0.post ∷ []) ∙ omega (arith, before)

  last_of : (xs : List ℕ) (y n : ℕ) → length xs ≡ n → slice_get (xs ++ y ∷ []) n ≡ Some y
  last_of [] y zero many = refl
  last_of [] y (suc n) many = absurd (omega (arith, many))
  last_of (x ∷ xs) y zero many = absurd (omega (arith, many))
  last_of (x ∷ xs) y (suc n) many = last_of xs y n (omega (arith, many))

  -- the end of a window that the maker has made
  pub end_made : (g : Look Post) → IsInOrder g → plan.method ≡ FirstParticipant → (v : ℕ) (gift : Gift Post) → g (window_maker plan) (Completed (suc v)) ≡ Some gift
      → is_window plan (ends_of g (suc v)) (suc v) ≡ true → end_told plan g (suc v) ≡ newest_time gift.post
  end_made g order method v gift is there =
      let down : suc v - 1 ≡ v = omega (arith) in
      let some : IsSome (g (window_maker plan) (Completed (suc v))) = subst (λ (o : Option (Gift Post)). IsSome o) (sym is) refl in
      let before = as_many_ends g order v (order.windows (window_maker plan) v some) in
      ap (λ b. option_map_or (λ end. end) (cond b (end_by plan.method plan.window plan.end_time (ends_of g (suc v)) (suc v)) None) 0) there
      ∙ ap (λ m. option_map_or (λ end. end) (end_by m plan.window plan.end_time (ends_of g (suc v)) (suc v)) 0) method
      ∙ ap (λ n. option_map_or (λ end. end) (slice_get (ends_of g (suc v)) n) 0) down
      ∙ ap (λ (o : Option (Gift Post)). option_map_or (λ end. end) (slice_get (ends_of g v ++ option_to_list (option_map (λ gift. newest_time gift.post) o)) v) 0) is
      ∙ ap (λ (o : Option ℕ). option_map_or (λ end. end) o 0) (last_of (ends_of g v) (newest_time gift.post) v before)
