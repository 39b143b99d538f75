-- Exchange by exchange, the place in what a participant sends.
use Rattle.std.proofs.Common.{◌≡◌, ℕ, zero, suc, ◌+◌, ◌-◌, ◌≤◌, Bool, false, cond, nat_eq, List, [], ◌∷◌, Option, Some, length, filter, slice_get, drop, refl, sym, ap, ◌∙◌, arith, eq-eqb}
use Rattle.std.specs.List.{range_with_len}
use Rattle.std.specs.Option.{option_map_or}
use Rattle.std.proofs.lemmas.Bool.{ne_eqb}
use Rattle.std.proofs.lemmas.List.{length-drop}
use Rattle.std.proofs.lemmas.Option.{slice_get_within}
use Rattle.cpl_plan.specs.PlanWords.{passes}
use Rattle.cpl_plan.specs.declared.parts.PlanParts.{PlanParts}
use Rattle.cpl_plan.specs.declared.parts.Exchange.{Exchange}
use Rattle.wave_coupling.specs.Posts.{sent}

at_drop : {X : Type 0} (k : ℕ) (xs : List X) → slice_get (drop k xs) 0 ≡ slice_get xs k
at_drop zero xs = refl
at_drop (suc k) [] = refl
at_drop (suc k) (x ∷ xs) = at_drop k xs

drop_none : (X : Type 0) (k : ℕ) → drop {A = X} k [] ≡ []
drop_none X zero = refl
drop_none X (suc k) = refl

next_drop : {X : Type 0} (k : ℕ) (xs : List X) → drop 1 (drop k xs) ≡ drop (k + 1) xs
next_drop zero xs = refl
next_drop {X} (suc k) [] = sym (drop_none X (suc k + 1))
next_drop (suc k) (x ∷ xs) = next_drop k xs ∙ (let one : suc (k + 1) ≡ suc k + 1 = omega arith in ap (λ (n : ℕ). drop n (x ∷ xs)) one)

module _ (plan : PlanParts) (p : ℕ) where
  -- the exchanges that the participant sends, from one number on
  abbrev pub sent_from : (n : ℕ) → List ℕ
  sent_from n = filter (λ x. passes plan.exchanges x (λ e. nat_eq e.from p)) (range_with_len n (length plan.exchanges - n))

  sent_all : sent_from 0 ≡ sent plan p
  sent_all = let whole : length plan.exchanges - 0 ≡ length plan.exchanges = omega arith in
      ap (λ (m : ℕ). filter (λ x. passes plan.exchanges x (λ e. nat_eq e.from p)) (range_with_len 0 m)) whole

  -- the exchanges before this number are those before this place
  pub record ArePassed (n place : ℕ) : Type 0 where
    pub left : drop place (sent plan p) ≡ sent_from n
    pub within : place ≤ length (sent plan p)

  pub none_passed : ArePassed 0 0
  none_passed = record { left = sym sent_all; within = omega arith }

  module _ (n : ℕ) (e : Exchange) (at : slice_get plan.exchanges n ≡ Some e) where
    first : sent_from n ≡ cond (nat_eq e.from p) (n ∷ sent_from (n + 1)) (sent_from (n + 1))
    first = let below = slice_get_within plan.exchanges n e at in
        let one_less : length plan.exchanges - n ≡ suc (length plan.exchanges - (n + 1)) = omega (arith, below) in
        ap (λ (m : ℕ). filter (λ x. passes plan.exchanges x (λ e. nat_eq e.from p)) (range_with_len n m)) one_less
        ∙ ap (λ (o : Option Exchange). cond (option_map_or (λ e. nat_eq e.from p) o false) (n ∷ sent_from (n + 1)) (sent_from (n + 1))) at

    module _ (place : ℕ) (passed : ArePassed n place) where
      pub other_passed : ¬ (e.from ≡ p) → ArePassed (n + 1) place
      other_passed apart = record {
        left = passed.left ∙ first ∙ ap (λ (b : Bool). cond b (n ∷ sent_from (n + 1)) (sent_from (n + 1))) (ne_eqb e.from p apart);
        within = passed.within;
      }

      module _ (own : e.from ≡ p) where
        here : drop place (sent plan p) ≡ n ∷ sent_from (n + 1)
        here = passed.left ∙ first ∙ ap (λ (b : Bool). cond b (n ∷ sent_from (n + 1)) (sent_from (n + 1))) (eq-eqb e.from p own)

        pub own_at : slice_get (sent plan p) place ≡ Some n
        own_at = sym (at_drop place (sent plan p)) ∙ ap (λ (xs : List ℕ). slice_get xs 0) here

        pub own_passed : ArePassed (n + 1) (place + 1)
        own_passed = record {
          left = sym (next_drop place (sent plan p)) ∙ ap (λ (xs : List ℕ). drop 1 xs) here;
          within = let below = slice_get_within (sent plan p) place n own_at in omega (arith, below);
        }

  pub all_passed : (n place : ℕ) → length plan.exchanges ≤ n → ArePassed n place → place ≡ length (sent plan p)
  all_passed n place past passed =
      let none : length plan.exchanges - n ≡ 0 = omega (arith, past) in
      let left : length (drop place (sent plan p)) ≡ 0 =
      ap (λ (xs : List ℕ). length xs) (passed.left ∙ ap (λ (m : ℕ). filter (λ x. passes plan.exchanges x (λ e. nat_eq e.from p)) (range_with_len n m)) none) in
      omega (arith, passed.within, left, length-drop place (sent plan p))
