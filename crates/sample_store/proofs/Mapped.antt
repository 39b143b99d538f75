-- Lists of gifts whose posts are parts of other posts: as those of one exchange are of all that a participant posts.
use Rattle.std.proofs.Common.{◌≡◌, ℕ, true, false, List, [], ◌∷◌, ◌++◌, map, Option, Some, None, option_map, option_to_list, refl, sym, ap, ◌∙◌, cond}
use Rattle.std.proofs.lemmas.List.{map-append}
use Rattle.cpl_plan.specs.declared.words.Item.{Item}
use Rattle.cpl_plan.specs.declared.words.Item.TheVariants.{Posted}
use Rattle.coupled_loop.specs.Given.{Gift, is_item, found, gives, accepts, accepted_for}

module _ {Whole Part : Type 0} (part : Whole → Part) where
  abbrev pub part_of : Gift Whole → Gift Part
  part_of gift = record { item = gift.item; iteration = gift.iteration; post = part gift.post }

  pub found_part : (given : List (Gift Whole)) (item : Item) → found (map part_of given) item ≡ option_map part_of (found given item)
  found_part [] item = refl
  found_part (first ∷ rest) item =
      elim (is_item first.item item) as (λ b. cond b (Some (part_of first)) (found (map part_of rest) item) ≡ option_map part_of (cond b (Some first) (found rest item))) [
        | true ↦ refl
        | false ↦ found_part rest item
      ]

  pub gives_part : (item : Item) (iteration : ℕ) (post : Whole) (given : List (Gift Whole)) → gives item iteration (part post) (map part_of given) ≡ map part_of (gives item iteration post given)
  gives_part item iteration post given = sym (map-append part_of given (record { item = item; iteration = iteration; post = post } ∷ []))

  pub accepts_part : (w k : ℕ) (given : List (Gift Whole)) → accepts w k (map part_of given) ≡ map part_of (accepts w k given)
  accepts_part w k given =
      ap (λ (o : Option (Gift Part)). map part_of given ++ option_to_list (option_map (accepted_for w) o)) (found_part given (Posted w k))
      ∙ ap (λ (xs : List (Gift Part)). map part_of given ++ xs) (by (found given (Posted w k)))
      ∙ sym (map-append part_of given (option_to_list (option_map (accepted_for w) (found given (Posted w k))))) where
        by : (o : Option (Gift Whole)) → option_to_list (option_map (accepted_for w) (option_map part_of o)) ≡ map part_of (option_to_list (option_map (accepted_for w) o))
        by (Some gift) = refl
        by None = refl
