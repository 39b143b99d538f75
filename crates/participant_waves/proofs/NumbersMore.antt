-- The numbers that pass a test, of one number more.
use Rattle.std.proofs.Common.{◌≡◌, ℕ, ◌+◌, Bool, true, false, cond, nat_eq, List, [], ◌∷◌, ◌++◌, map, slice_get, Some, refl, ap, sym, ◌∙◌, arith, append-nil}
use Rattle.std.specs.List.{filter, range_with_len}
use Rattle.std.specs.Option.{option_map_or}
use Rattle.std.proofs.lemmas.Bool.{eq-eqb, ne_eqb}
use Rattle.std.proofs.lemmas.List.{map-append}
use Rattle.std.proofs.lemmas.List.FromFn.{filter_of_map_range_with_len_more}
use Rattle.cpl_plan.specs.PlanWords.{passes}
use Rattle.cpl_plan.specs.declared.parts.Exchange.{Exchange}

map_itself : (ns : List ℕ) → map (λ n. n) ns ≡ ns
map_itself [] = refl
map_itself (n ∷ ns) = ap (λ ms. n ∷ ms) (map_itself ns)

module _ (test : ℕ → Bool) (x : ℕ) where
  one_more : filter test (range_with_len 0 (x + 1)) ≡ filter test (range_with_len 0 x) ++ cond (test x) (x ∷ []) []
  one_more =
      ap (filter test) (sym (map_itself (range_with_len 0 (x + 1)))) ∙ filter_of_map_range_with_len_more test (λ n. n) 0 x x (omega (arith))
      ∙ ap (λ ns. filter test ns ++ cond (test x) (x ∷ []) []) (map_itself (range_with_len 0 x))

  passed_more : test x ≡ true → filter test (range_with_len 0 (x + 1)) ≡ filter test (range_with_len 0 x) ++ x ∷ []
  passed_more is = one_more ∙ ap (λ b. filter test (range_with_len 0 x) ++ cond b (x ∷ []) []) is

  failed_more : test x ≡ false → filter test (range_with_len 0 (x + 1)) ≡ filter test (range_with_len 0 x)
  failed_more is = one_more ∙ ap (λ b. filter test (range_with_len 0 x) ++ cond b (x ∷ []) []) is ∙ append-nil (filter test (range_with_len 0 x))

-- the exchanges of one end, of one exchange more
module _ (exchanges : List Exchange) (end : Exchange → ℕ) (part x : ℕ) (e : Exchange) (at : slice_get exchanges x ≡ Some e) where
  abbrev pub is_of : ℕ → Bool
  is_of y = passes exchanges y (λ f. nat_eq (end f) part)

  pub of_more : {S : Type 0} (number : S → ℕ) (ss : List S) (s : S) → end e ≡ part → number s ≡ x → map number ss ≡ filter is_of (range_with_len 0 x)
      → map number (ss ++ s ∷ []) ≡ filter is_of (range_with_len 0 (x + 1))
  of_more number ss s same own before =
      map-append number ss (s ∷ []) ∙ ap (λ ns. ns ++ number s ∷ []) before ∙ ap (λ n. filter is_of (range_with_len 0 x) ++ n ∷ []) own
      ∙ sym (passed_more is_of x (ap (λ o. option_map_or (λ f. nat_eq (end f) part) o false) at ∙ eq-eqb (end e) part same))

  pub of_others : {S : Type 0} (number : S → ℕ) (ss : List S) → ¬ (end e ≡ part) → map number ss ≡ filter is_of (range_with_len 0 x)
      → map number ss ≡ filter is_of (range_with_len 0 (x + 1))
  of_others number ss other before =
      before ∙ sym (failed_more is_of x (ap (λ o. option_map_or (λ f. nat_eq (end f) part) o false) at ∙ ne_eqb (end e) part other))
