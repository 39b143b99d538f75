-- Members of lists, of filtered and of mapped ones; what some test finds.
use Rattle.std.proofs.Common.{◌≡◌, suc, ◌<◌, ◌≤◌, Bool, true, false, ◌||◌, cond, ◌⊎◌, inl, inr, length, List, [], ◌∷◌, refl, ap, sym, subst, ◌∙◌, arith, Contains}
use Rattle.std.specs.Prelude.{filter}
use Rattle.std.specs.List.{list_any}
use Rattle.std.proofs.lemmas.List.Folds.{list_any_at}
use Rattle.plan_order.proofs.Loops.{head_in, tail_in, in_cons}

pub any_at : {X : Type 0} (p : X → Bool) (xs : List X) (x : X) → Contains xs x → p x ≡ true → list_any p xs ≡ true
any_at p xs x inside passes = list_any_at p xs inside.0 x inside.1 (ap p inside.2 ∙ passes)

any_in : {X : Type 0} (p : X → Bool) (x : X) (xs : List X) (b : Bool) → p x ≡ b → (b || list_any p xs) ≡ true → (list_any p xs ≡ true → (y : X) × Contains xs y × (p y ≡ true))
    → (y : X) × Contains (x ∷ xs) y × (p y ≡ true)
any_in p x xs true is any rest = (x, head_in x xs, is)
any_in p x xs false is any rest = let found = rest any in (found.0, tail_in x xs found.0 found.1, found.2)

pub any_found : {X : Type 0} (p : X → Bool) (xs : List X) → list_any p xs ≡ true → (x : X) × Contains xs x × (p x ≡ true)
any_found p [] any = cc
any_found p (x ∷ xs) any = any_in p x xs (p x) refl any (any_found p xs)

in_kept : {X : Type 0} (p : X → Bool) (x : X) (xs : List X) (b : Bool) → p x ≡ b → (y : X) → Contains (cond b (x ∷ xs) xs) y → Contains xs y ⊎ ((x ≡ y) × (b ≡ true))
in_kept p x xs true is y inside =
    elim (in_cons x xs y inside) [
      | inl same ↦ inr (same, refl)
      | inr old ↦ inl old
    ]
in_kept p x xs false is y inside = inl inside

-- what a filter keeps is of the list, and passes
pub from_filter : {X : Type 0} (p : X → Bool) (xs : List X) (y : X) → Contains (filter p xs) y → Contains xs y × (p y ≡ true)
from_filter p [] y inside = absurd (omega (arith, inside.1))
from_filter p (x ∷ xs) y inside =
    elim (in_kept p x (filter p xs) (p x) refl y inside) [
      | inl old ↦ let found = from_filter p xs y old in (tail_in x xs y found.0, found.1)
      | inr here ↦ ((0, omega arith, here.0), ap p (sym here.0) ∙ here.1)
    ]

kept_head : {X : Type 0} (x : X) (xs : List X) (b : Bool) → b ≡ true → Contains (cond b (x ∷ xs) xs) x
kept_head x xs true is = head_in x xs
kept_head x xs false is = cc

kept_tail : {X : Type 0} (x : X) (xs : List X) (b : Bool) (y : X) → Contains xs y → Contains (cond b (x ∷ xs) xs) y
kept_tail x xs true y inside = tail_in x xs y inside
kept_tail x xs false y inside = inside

kept_same : {X : Type 0} (p : X → Bool) (x : X) (xs : List X) (y : X) → x ≡ y → p y ≡ true → Contains (cond (p x) (x ∷ xs) xs) y
kept_same {X} p x xs y same passes = subst (λ (z : X). Contains (cond (p x) (x ∷ xs) xs) z) same (kept_head x xs (p x) (ap p same ∙ passes))

-- what passes is kept
pub in_filter : {X : Type 0} (p : X → Bool) (xs : List X) (y : X) → Contains xs y → p y ≡ true → Contains (filter p xs) y
in_filter p [] y inside passes = absurd (omega (arith, inside.1))
in_filter p (x ∷ xs) y inside passes =
    elim (in_cons x xs y inside) [
      | inl same ↦ kept_same p x (filter p xs) y same passes
      | inr old ↦ kept_tail x (filter p xs) (p x) y (in_filter p xs y old passes)
    ]

kept_length : {X : Type 0} (x : X) (xs : List X) (b : Bool) → length (cond b (x ∷ xs) xs) ≤ suc (length xs)
kept_length x xs true = omega arith
kept_length x xs false = omega arith

pub no_more : {X : Type 0} (p : X → Bool) (xs : List X) → length (filter p xs) ≤ length xs
no_more p [] = omega arith
no_more p (x ∷ xs) = omega (arith, kept_length x (filter p xs) (p x), no_more p xs)

-- each passes, or the filter takes some away
all_or_fewer_here : {X : Type 0} (p : X → Bool) (x : X) (xs : List X) (b : Bool) → p x ≡ b → ((y : X) → Contains xs y → p y ≡ true) ⊎ (length (filter p xs) < length xs)
    → ((y : X) → Contains (x ∷ xs) y → p y ≡ true) ⊎ (length (cond b (x ∷ filter p xs) (filter p xs)) < length (x ∷ xs))
all_or_fewer_here p x xs true is (inl all) =
    inl (λ y inside. elim (in_cons x xs y inside) [
      | inl same ↦ ap p (sym same) ∙ is
      | inr old ↦ all y old
    ])
all_or_fewer_here p x xs true is (inr fewer) = inr (omega (arith, fewer))
all_or_fewer_here p x xs false is rest = inr (omega (arith, no_more p xs))

pub all_or_fewer : {X : Type 0} (p : X → Bool) (xs : List X) → ((x : X) → Contains xs x → p x ≡ true) ⊎ (length (filter p xs) < length xs)
all_or_fewer p [] = inl (λ x inside. absurd (omega (arith, inside.1)))
all_or_fewer p (x ∷ xs) = all_or_fewer_here p x xs (p x) refl (all_or_fewer p xs)
