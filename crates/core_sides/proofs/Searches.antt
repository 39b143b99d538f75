-- A search goes on: what is found among the first, and then among the rest.
use Rattle.std.proofs.Common.{◌≡◌, ℕ, zero, suc, ◌+◌, Bool, true, false, not, ◌&&◌, List, [], ◌∷◌, drop, map, filter_map, slice_get, Option, Some, None, cond, find, option_map, refl, ap, ◌∙◌, sym}
use Rattle.std.specs.Option.{option_or, option_map_or}
use Rattle.std.proofs.lemmas.List.{drop_more}
use Rattle.std.proofs.lemmas.Option.{slice_get_within, get_or_from_slice_get}
use Rattle.core_sides.specs.declared.search.Search.{Search}
use Rattle.core_sides.specs.Searched.{searched, and_then, and_further}

-- what is left from a place on begins with what stands there
pub drop_at : {X : Type 0} → (xs : List X) (i : ℕ) (x : X) → slice_get xs i ≡ Some x → drop i xs ≡ x ∷ drop (i + 1) xs
drop_at xs i x is =
    drop_more xs i x (slice_get_within xs i x is) ∙ ap (λ y. y ∷ drop (i + 1) xs) (get_or_from_slice_get xs i x x is)

one_more : (found : Option ℕ) (meant : Bool) (owner : ℕ) (given : Bool) (more : Option (ℕ × Bool))
    → option_or found (option_map (λ one. one.0) (cond meant (Some (owner, given)) more))
    ≡ option_or (option_or found (cond meant (Some owner) None)) (option_map (λ one. one.0) more)
one_more (Some part) meant owner given more = refl
one_more None true owner given more = refl
one_more None false owner given more = refl

-- one more that is asked
pub searched_next : (ended : ℕ → Bool) (search : Search) (owner : ℕ) (given : Bool) (rest : List (ℕ × Bool))
    → and_further search (searched ended ((owner, given) ∷ rest)) ≡ and_further (and_then search owner given (ended owner)) (searched ended rest)
searched_next ended search owner given rest =
    rw (
      one_more search.cut (not given && ended owner) owner given (find (λ one. not one.1 && ended one.0) rest),
      one_more search.waits (not given) owner given (find (λ one. not one.1) rest),
    ) refl

or_none : (found : Option ℕ) → option_or found None ≡ found
or_none (Some part) = refl
or_none None = refl

-- nobody is left
pub searched_none : (ended : ℕ → Bool) (search : Search) → and_further search (searched ended []) ≡ search
searched_none ended search = rw (or_none search.cut, or_none search.waits) refl

module _ {X : Type 0} (ended : ℕ → Bool) (ask : X → ℕ × Bool) (xs : List X) (i : ℕ) (search all : Search) where
  -- the search has come to the end
  pub search_done : slice_get xs i ≡ None → and_further search (searched ended (map ask (drop i xs))) ≡ all → search ≡ all
  search_done none so_far =
      sym (searched_none ended search) ∙ ap (λ (rest : List X). and_further search (searched ended (map ask rest))) (sym (drop_none xs i none)) ∙ so_far where
        drop_none : (ys : List X) (n : ℕ) → slice_get ys n ≡ None → drop n ys ≡ []
        drop_none [] zero none = refl
        drop_none [] (suc n) none = refl
        drop_none (y ∷ ys) zero none = cc
        drop_none (y ∷ ys) (suc n) none = drop_none ys n none

  -- it goes on by one
  pub search_more : (x : X) (owner : ℕ) (given : Bool) → slice_get xs i ≡ Some x → ask x ≡ (owner, given)
      → and_further search (searched ended (map ask (drop i xs))) ≡ all
      → and_further (and_then search owner given (ended owner)) (searched ended (map ask (drop (i + 1) xs))) ≡ all
  search_more x owner given at asks so_far =
      sym (searched_next ended search owner given (map ask (drop (i + 1) xs)))
      ∙ ap (λ (one : ℕ × Bool). and_further search (searched ended (one ∷ map ask (drop (i + 1) xs)))) (sym asks)
      ∙ ap (λ (rest : List X). and_further search (searched ended (map ask rest))) (sym (drop_at xs i x at)) ∙ so_far

module _ {X : Type 0} (ended given : ℕ → Bool) (pick : X → Option ℕ) (xs : List X) (i : ℕ) (search all : Search) (x : X) (at : slice_get xs i ≡ Some x) where
  -- it goes on by one that is asked, or by one that is passed over
  pub pick_more : and_further search (searched ended (map (λ owner. (owner, given owner)) (filter_map pick (drop i xs)))) ≡ all
      → and_further (option_map_or (λ owner. and_then search owner (given owner) (ended owner)) (pick x) search)
      (searched ended (map (λ owner. (owner, given owner)) (filter_map pick (drop (i + 1) xs)))) ≡ all
  pick_more so_far = by (pick x) refl where
    by : (o : Option ℕ) → pick x ≡ o
        → and_further (option_map_or (λ owner. and_then search owner (given owner) (ended owner)) o search)
        (searched ended (map (λ owner. (owner, given owner)) (filter_map pick (drop (i + 1) xs)))) ≡ all
    by (Some owner) picked =
        let opened : filter_map pick (drop i xs) ≡ owner ∷ filter_map pick (drop (i + 1) xs) = rw (drop_at xs i x at, picked) refl in
        sym (searched_next ended search owner (given owner) (map (λ one. (one, given one)) (filter_map pick (drop (i + 1) xs))))
        ∙ ap (λ (rest : List ℕ). and_further search (searched ended (map (λ one. (one, given one)) rest))) (sym opened) ∙ so_far
    by None picked =
        let opened : filter_map pick (drop i xs) ≡ filter_map pick (drop (i + 1) xs) = rw (drop_at xs i x at, picked) refl in
        ap (λ (rest : List ℕ). and_further search (searched ended (map (λ one. (one, given one)) rest))) (sym opened) ∙ so_far
