-- What is found in a list of gifts that grows at its end.
use Rattle.std.proofs.Common.{◌≡◌, Bool, true, false, ◌⊎◌, inl, inr, List, [], ◌∷◌, ◌++◌, Option, Some, None, IsSome, is_some, refl, sym, ap, subst, ◌∙◌, cond, eq-eqb, eqb-true, nat_eq}
use Rattle.std.proofs.lemmas.Bool.{and_parts}
use Rattle.std.proofs.lemmas.Option.{none-some, same_Some}
use Rattle.std.proofs.lemmas.List.Folds.{find-append}
use Rattle.std.specs.List.{last_or}
use Rattle.std.specs.Option.{option_or}
use Rattle.cpl_plan.specs.declared.words.Item.{Item}
use Rattle.cpl_plan.specs.declared.words.Item.TheVariants.{Completed, Posted}
use Rattle.coupled_loop.specs.Given.{Gift, is_item, found}

pub is_item_same : (item : Item) → is_item item item ≡ true
is_item_same (Completed w) = eq-eqb w w refl
is_item_same (Posted w k) = rw (eq-eqb w w refl, eq-eqb k k refl) refl

pub is_item_true : (item other : Item) → is_item item other ≡ true → item ≡ other
is_item_true (Completed v) (Completed w) is = ap Completed (eqb-true v w is)
is_item_true (Completed v) (Posted w k) is = cc
is_item_true (Posted v j) (Completed w) is = cc
is_item_true (Posted v j) (Posted w k) is =
    let both = and_parts (nat_eq v w) (nat_eq j k) is in
    let first : v ≡ w = eqb-true v w both.0 in let second : j ≡ k = eqb-true j k both.1 in cc

-- the last one of a list that ends with it
pub last_at_end : {X : Type 0} (before : Option X) (xs : List X) (x : X) → last_or before (xs ++ x ∷ []) ≡ Some x
last_at_end before [] x = refl
last_at_end before (y ∷ xs) x = last_at_end (Some y) xs x

module _ {Post : Type 0} where
  found_joined : (before after : List (Gift Post)) (item : Item) → found (before ++ after) item ≡ option_or (found before item) (found after item)
  found_joined before after item = find-append (λ gift. is_item gift.item item) before after

  -- what is found stays
  pub found_stays : (before after : List (Gift Post)) (item : Item) (gift : Gift Post) → found before item ≡ Some gift → found (before ++ after) item ≡ Some gift
  found_stays before after item gift is = found_joined before after item ∙ ap (λ o. option_or o (found after item)) is

  pub is_found_stays : (before after : List (Gift Post)) (item : Item) → IsSome (found before item) → IsSome (found (before ++ after) item)
  is_found_stays before after item is = rw (found_joined before after item) (by (found before item) is) where
    by : (o : Option (Gift Post)) → IsSome o → IsSome (option_or o (found after item))
    by (Some gift) some = some
    by None some = cc

  -- what is found is of the item
  pub found_is : (given : List (Gift Post)) (item : Item) (gift : Gift Post) → found given item ≡ Some gift → gift.item ≡ item
  found_is [] item gift is = absurd (none-some gift is)
  found_is (first ∷ rest) item gift is =
      elim (is_item first.item item) as (λ b. is_item first.item item ≡ b → cond b (Some first) (found rest item) ≡ Some gift → gift.item ≡ item) [
        | true ↦ λ same here. subst (λ (g : Gift Post). g.item ≡ item) (same_Some first gift here) (is_item_true first.item item same)
        | false ↦ λ apart there. found_is rest item gift there
      ] refl is

  module _ (gift : Gift Post) (item : Item) where
    one_apart : (gift.item ≡ item → ⊥) → found (gift ∷ []) item ≡ None
    one_apart apart = by (is_item gift.item item) refl where
      by : (b : Bool) → is_item gift.item item ≡ b → cond b (Some gift) None ≡ None
      by true e = absurd (apart (is_item_true gift.item item e))
      by false e = refl

    one_same : gift.item ≡ item → found (gift ∷ []) item ≡ Some gift
    one_same same = subst (λ (one : Item). found (gift ∷ []) one ≡ Some gift) same (rw (is_item_same gift.item) refl)

    one_found : (other : Gift Post) → found (gift ∷ []) item ≡ Some other → (gift.item ≡ item) × (gift ≡ other)
    one_found other is = by (is_item gift.item item) refl is where
      by : (b : Bool) → is_item gift.item item ≡ b → cond b (Some gift) None ≡ Some other → (gift.item ≡ item) × (gift ≡ other)
      by true e some = (is_item_true gift.item item e, same_Some gift other some)
      by false e some = absurd (none-some other some)

  module _ (given : List (Gift Post)) (gift : Gift Post) (item : Item) where
    -- what was not found is not found either with another gift, and is found with its own
    pub still_none : found given item ≡ None → (gift.item ≡ item → ⊥) → found (given ++ gift ∷ []) item ≡ None
    still_none none apart = found_joined given (gift ∷ []) item ∙ ap (λ o. option_or o (found (gift ∷ []) item)) none ∙ one_apart gift item apart

    pub found_new : found given item ≡ None → gift.item ≡ item → found (given ++ gift ∷ []) item ≡ Some gift
    found_new none same = found_joined given (gift ∷ []) item ∙ ap (λ o. option_or o (found (gift ∷ []) item)) none ∙ one_same gift item same

    -- what is found with one gift more was found before, or is that gift
    pub found_before_or : (other : Gift Post) → found (given ++ gift ∷ []) item ≡ Some other → (found given item ≡ Some other) ⊎ ((gift.item ≡ item) × (gift ≡ other))
    found_before_or other is = by (found given item) refl (sym (found_joined given (gift ∷ []) item) ∙ is) where
      by : (o : Option (Gift Post)) → found given item ≡ o → option_or o (found (gift ∷ []) item) ≡ Some other → (found given item ≡ Some other) ⊎ ((gift.item ≡ item) × (gift ≡ other))
      by (Some one) e some = inl (e ∙ some)
      by None e some = inr (one_found gift item other some)

    pub is_found_before_or : IsSome (found (given ++ gift ∷ []) item) → IsSome (found given item) ⊎ (gift.item ≡ item)
    is_found_before_or is = by (found (given ++ gift ∷ []) item) refl is where
      by : (o : Option (Gift Post)) → found (given ++ gift ∷ []) item ≡ o → IsSome o → IsSome (found given item) ⊎ (gift.item ≡ item)
      by (Some one) e some = elim (found_before_or one e) [ inl before ↦ inl (ap is_some before) | inr new ↦ inr new.0 ]
      by None e some = cc

    pub found_last : gift.item ≡ item → IsSome (found (given ++ gift ∷ []) item)
    found_last same = by (found given item) refl where
      by : (o : Option (Gift Post)) → found given item ≡ o → IsSome (found (given ++ gift ∷ []) item)
      by (Some one) e = ap is_some (found_stays given (gift ∷ []) item one e)
      by None e = ap is_some (found_new e same)
