-- What is found in a list that grows at its end, and looks that extend others.
use Rattle.std.proofs.Common.{◌≡◌, ℕ, Bool, true, false, ◌⊎◌, inl, inr, List, [], ◌∷◌, ◌++◌, Option, Some, None, IsSome, is_some, refl, ap, ◌∙◌, cond, eq-eqb, eqb-true, nat_eq}
use Rattle.std.proofs.lemmas.Bool.{and_parts}
use Rattle.std.proofs.lemmas.List.Folds.{find-append}
use Rattle.std.specs.Option.{option_or}
use Rattle.cpl_plan.specs.declared.words.Item.{Item}
use Rattle.cpl_plan.specs.declared.words.Item.TheVariants.{Completed, Posted}
use Rattle.coupled_loop.specs.Given.{Gift, Look, is_item, found}
use Rattle.coupled_loop.specs.Settled.{Extends}

pub is_item_same : (item : Item) → is_item item item ≡ true
is_item_same (Completed w) = eq-eqb w w refl
is_item_same (Posted w k) = rw (eq-eqb w w refl, eq-eqb k k refl) refl

pub is_item_true : (item other : Item) → is_item item other ≡ true → item ≡ other
is_item_true (Completed v) (Completed w) is = ap Completed (eqb-true v w is)
is_item_true (Completed v) (Posted w k) is = cc
is_item_true (Posted v j) (Completed w) is = cc
is_item_true (Posted v j) (Posted w k) is =
    let both = and_parts (nat_eq v w) (nat_eq j k) is in
    let first : v ≡ w = eqb-true v w both.0 in let second : j ≡ k = eqb-true j k both.1 in cc

module _ {Post : Type 0} where
  pub found_joined : (before after : List (Gift Post)) (item : Item) → found (before ++ after) item ≡ option_or (found before item) (found after item)
  found_joined before after item = find-append (λ gift. is_item gift.item item) before after

  -- what is found stays
  pub found_stays : (before after : List (Gift Post)) (item : Item) (gift : Gift Post) → found before item ≡ Some gift → found (before ++ after) item ≡ Some gift
  found_stays before after item gift is = found_joined before after item ∙ ap (λ o. option_or o (found after item)) is

  pub is_found_stays : (before after : List (Gift Post)) (item : Item) → IsSome (found before item) → IsSome (found (before ++ after) item)
  is_found_stays before after item is = rw (found_joined before after item) (by (found before item) is) where
    by : (o : Option (Gift Post)) → IsSome o → IsSome (option_or o (found after item))
    by (Some gift) some = some
    by None some = cc

  pub later_found : (before after : List (Gift Post)) (item : Item) → IsSome (found after item) → IsSome (found (before ++ after) item)
  later_found before after item is = rw (found_joined before after item) (by (found before item)) where
    by : (o : Option (Gift Post)) → IsSome (option_or o (found after item))
    by (Some gift) = refl
    by None = is

  -- what is found in a list that has grown was found before, or is found in what has come
  pub found_cases : (before after : List (Gift Post)) (item : Item) → IsSome (found (before ++ after) item) → IsSome (found before item) ⊎ IsSome (found after item)
  found_cases before after item is = by (found before item) (rw (found_joined before after item) at is) where
    by : (o : Option (Gift Post)) → IsSome (option_or o (found after item)) → IsSome o ⊎ IsSome (found after item)
    by (Some gift) some = inl refl
    by None some = inr some

  -- one gift is found as its own item alone
  pub found_one : (gift : Gift Post) (item : Item) → IsSome (found (gift ∷ []) item) → gift.item ≡ item
  found_one gift item is = by (is_item gift.item item) refl is where
    by : (b : Bool) → is_item gift.item item ≡ b → IsSome (cond b (Some gift) None) → gift.item ≡ item
    by true e some = is_item_true gift.item item e
    by false e some = cc

  pub found_itself : (gift : Gift Post) → found (gift ∷ []) gift.item ≡ Some gift
  found_itself gift = rw (is_item_same gift.item) refl

  -- looks
  pub extends_itself : (f : Look Post) → Extends f f
  extends_itself f part item gift is = is

  pub extends_further : (f g h : Look Post) → Extends f g → Extends g h → Extends f h
  extends_further f g h first second part item gift is = second part item gift (first part item gift is)

  pub still_given : (f g : Look Post) (part : ℕ) (item : Item) → Extends f g → IsSome (f part item) → IsSome (g part item)
  still_given f g part item extends is = by (f part item) refl is where
    by : (o : Option (Gift Post)) → f part item ≡ o → IsSome o → IsSome (g part item)
    by (Some gift) e some = ap is_some (extends part item gift e)
    by None e some = cc
