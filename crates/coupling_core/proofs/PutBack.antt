-- A vector that was written as a slice.
use Rattle.std.proofs.Common.{◌≡◌, ℕ, zero, suc, ◌<◌, ◌≤◌, List, [], ◌∷◌, ◌++◌, append-nil, length, take, drop, set, slice_get, Option, Some, refl, sym, ap, subst, ◌∙◌, arith}
use Rattle.std.proofs.lemmas.Option.{none-some, same_Some}
use Rattle.cpl_plan.specs.declared.parts.PlanParts.{PlanParts}
use Rattle.sample_store.specs.Kept.{Kept as StoreKept}
use Rattle.core_sides.specs.CoreWords.{WaveState}
use Rattle.core_stores.specs.StoresStand.{AreStores}
use Rattle.coupling_core.proofs.Ends.{take_all}

module _ {X : Type 0} where
  drop_all : (n : ℕ) (xs : List X) → length xs ≤ n → drop n xs ≡ []
  drop_all zero [] below = refl
  drop_all (suc n) [] below = refl
  drop_all zero (x ∷ xs) below = absurd (omega (arith, below))
  drop_all (suc n) (x ∷ xs) below = drop_all n xs (omega (arith, below))

  -- its items are what was written
  pub put_back : (n : ℕ) (items written : List X) → n ≡ length items → length written ≡ length items → take n (written ++ drop (length written) items) ≡ written
  put_back n items written size same =
      ap (λ (rest : List X). take n (written ++ rest)) (drop_all (length written) items (omega (arith, same)))
      ∙ ap (take n) (append-nil written) ∙ take_all written n (omega (arith, size, same))

  -- what is there already
  pub set_same : (xs : List X) (i : ℕ) (x : X) → slice_get xs i ≡ Some x → set xs i x ≡ xs
  set_same [] i x is = refl
  set_same (y ∷ xs) zero x is = ap (λ z. z ∷ xs) (sym (same_Some y x is))
  set_same (y ∷ xs) (suc i) x is = ap (λ zs. y ∷ zs) (set_same xs i x is)

-- stores that stand, as they are written back
pub stores_back : (plan : PlanParts) (n : ℕ) (items written : List (Option StoreKept)) (sides : WaveState) → n ≡ length items → length written ≡ length items → AreStores plan written sides
    → AreStores plan (take n (written ++ drop (length written) items)) sides
stores_back plan n items written sides size same are = subst (λ (xs : List (Option StoreKept)). AreStores plan xs sides) (sym (put_back n items written size same)) are
