-- What the elements that pass a test give one after another, of one element more.
use Rattle.std.proofs.Common.{◌≡◌, ℕ, ◌+◌, ◌<◌, Bool, true, false, cond, List, [], ◌∷◌, ◌++◌, take, length, get_or, ap, sym, ◌∙◌, append-nil}
use Rattle.std.specs.List.{filter, flat_map}
use Rattle.std.proofs.lemmas.Grind.{flat_map-append}
use Rattle.std.proofs.lemmas.List.{append_assoc}
use Rattle.std.proofs.lemmas.List.Elements.{filter_more}

module _ {X Y : Type 0} (f : X → List Y) (p : X → Bool) (xs : List X) (i : ℕ) (x : X) (within : i < length xs) (at : x ≡ get_or xs i x) where
  abbrev before : List Y
  before = flat_map f (filter p (take i xs))

  one_more : flat_map f (filter p (take (i + 1) xs)) ≡ before ++ flat_map f (cond (p x) (x ∷ []) [])
  one_more =
      ap (flat_map f) (filter_more p xs i x within)
      ∙ flat_map-append f (filter p (take i xs)) (cond (p (get_or xs i x)) (get_or xs i x ∷ []) [])
      ∙ ap (λ (y : X). before ++ flat_map f (cond (p y) (y ∷ []) [])) (sym at)

  pub passed_more : p x ≡ true → flat_map f (filter p (take (i + 1) xs)) ≡ before ++ f x
  passed_more is = one_more ∙ ap (λ (b : Bool). before ++ flat_map f (cond b (x ∷ []) [])) is ∙ ap (λ (ys : List Y). before ++ ys) (append-nil (f x))

  pub failed_more : p x ≡ false → flat_map f (filter p (take (i + 1) xs)) ≡ before
  failed_more is = one_more ∙ ap (λ (b : Bool). before ++ flat_map f (cond b (x ∷ []) [])) is ∙ append-nil before

  -- what was put behind the others, or was not
  pub pushed : (start now after : List Y) → now ≡ start ++ before → after ≡ now ++ f x → p x ≡ true → after ≡ start ++ flat_map f (filter p (take (i + 1) xs))
  pushed start now after is more passes =
      more ∙ ap (λ (ys : List Y). ys ++ f x) is ∙ append_assoc start before (f x) ∙ ap (λ (ys : List Y). start ++ ys) (sym (passed_more passes))

  pub skipped : (start now after : List Y) → now ≡ start ++ before → after ≡ now → p x ≡ false → after ≡ start ++ flat_map f (filter p (take (i + 1) xs))
  skipped start now after is same fails = same ∙ is ∙ ap (λ (ys : List Y). start ++ ys) (sym (failed_more fails))
