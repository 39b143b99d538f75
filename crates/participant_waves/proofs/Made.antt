-- A list that is made result by result: what is made so far, and what is left; the first error is that of all.
use Rattle.std.proofs.Common.{◌≡◌, ℕ, ◌+◌, ◌<◌, ◌≤◌, Result, Ok, Err, List, [], ◌∷◌, ◌++◌, drop, map, length, get_or, refl, sym, ap, ◌∙◌}
use Rattle.std.proofs.lemmas.List.{drop_more, drop_all, append_assoc, append-nil}
use Rattle.wave_coupling.specs.Mapped.{before_all, all_or_first}

-- what is done, before what the rest gives
abbrev pub joined : {Y E : Type 0} → List Y → Result (List Y) E → Result (List Y) E
joined done (Ok rest) = Ok (done ++ rest)
joined done (Err at) = Err at

joined_nothing : {Y E : Type 0} (result : Result (List Y) E) → joined [] result ≡ result
joined_nothing (Ok rest) = refl
joined_nothing (Err at) = refl

joined_more : {Y E : Type 0} (done : List Y) (y : Y) (result : Result (List Y) E) → joined done (before_all (Ok y) result) ≡ joined (done ++ y ∷ []) result
joined_more done y (Ok rest) = ap Ok (sym (append_assoc done (y ∷ []) rest))
joined_more done y (Err at) = refl

-- what is made so far goes on to what the whole list gives
abbrev pub GoesOn : {X Y E : Type 0} (f : X → Result Y E) → List X → (done : List Y) → (i : ℕ) → Type 0
GoesOn f xs done i = joined done (all_or_first (map f (drop i xs))) ≡ all_or_first (map f xs)

module _ {X Y E : Type 0} (f : X → Result Y E) (xs : List X) where
  pub starts : GoesOn f xs [] 0
  starts = joined_nothing (all_or_first (map f xs))

  rest_is : (i : ℕ) (x : X) → i < length xs → x ≡ get_or xs i x → all_or_first (map f (drop i xs)) ≡ before_all (f x) (all_or_first (map f (drop (i + 1) xs)))
  rest_is i x inside is =
      ap (λ rest. all_or_first (map f rest)) (drop_more xs i x inside) ∙ ap (λ y. before_all (f y) (all_or_first (map f (drop (i + 1) xs)))) (sym is)

  -- one more
  pub more : (done : List Y) (i : ℕ) (x : X) (y : Y) → i < length xs → x ≡ get_or xs i x → f x ≡ Ok y → GoesOn f xs done i → GoesOn f xs (done ++ y ∷ []) (i + 1)
  more done i x y inside at is before =
      sym (joined_more done y (all_or_first (map f (drop (i + 1) xs))))
      ∙ sym (ap (joined done) (rest_is i x inside at ∙ ap (λ r. before_all r (all_or_first (map f (drop (i + 1) xs)))) is))
      ∙ before

  -- all of them
  pub whole : (done : List Y) (i : ℕ) → length xs ≤ i → GoesOn f xs done i → all_or_first (map f xs) ≡ Ok done
  whole done i past before =
      sym before ∙ ap (λ rest. joined done (all_or_first (map f rest))) (drop_all i xs past) ∙ ap Ok (append-nil done)

  -- one that is refused
  pub refused : (done : List Y) (i : ℕ) (x : X) (why : E) → i < length xs → x ≡ get_or xs i x → f x ≡ Err why → GoesOn f xs done i → all_or_first (map f xs) ≡ Err why
  refused done i x why inside at is before =
      sym before ∙ ap (joined done) (rest_is i x inside at ∙ ap (λ r. before_all r (all_or_first (map f (drop (i + 1) xs)))) is)
