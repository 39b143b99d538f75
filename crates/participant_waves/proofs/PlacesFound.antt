-- Where a number stands in a list.
use Rattle.std.proofs.Common.{◌≡◌, ℕ, ◌+◌, ◌<◌, Bool, true, false, ◌||◌, nat_eq, cond, List, [], ◌∷◌, length, get_or, slice_get, replicate, Option, Some, None, is_some, position, Contains, refl, ap, sym, ◌∙◌, arith, inl, inr}
use Rattle.std.specs.List.{list_any, position_from}
use Rattle.std.proofs.lemmas.Bool.{or_left, or_right, eqb-true, false≢true}
use Rattle.std.proofs.lemmas.Iterator.Adapters.{position_from-zero}
use Rattle.std.proofs.lemmas.List.{get_or-replicate, length-replicate}
use Rattle.std.proofs.lemmas.List.Quantifiers.{position-Some}
use Rattle.std.proofs.lemmas.Option.{slice_get-get_or}
use Rattle.plan_order.proofs.Loops.{in_cons}
use Rattle.plan_order.proofs.Orders.{none_in_nil}

found_or : (i : ℕ) (b : Bool) (more : Bool) (rest : Option ℕ) → is_some rest ≡ more → is_some (cond b (Some i) rest) ≡ (b || more)
found_or i true more rest e = refl
found_or i false more rest e = e

found_from : {X : Type 0} (test : X → Bool) (i : ℕ) (xs : List X) → is_some (position_from test i xs) ≡ list_any test xs
found_from test i [] = refl
found_from test i (x ∷ xs) = found_or i (test x) (list_any test xs) (position_from test (i + 1) xs) (found_from test (i + 1) xs)

any_passes : {X : Type 0} (test : X → Bool) (xs : List X) (x : X) → Contains xs x → test x ≡ true → list_any test xs ≡ true
any_passes test [] x inside is = absurd (none_in_nil x inside)
any_passes test (y ∷ xs) x inside is =
    elim (in_cons y xs x inside) [
      | inl same ↦ or_left (test y) (list_any test xs) (ap test same ∙ is)
      | inr rest ↦ or_right (test y) (list_any test xs) (any_passes test xs x rest is)
    ]

-- what is in a list and passes has a place before it, or at it
pub found_there : {X : Type 0} (test : X → Bool) (xs : List X) (x : X) → Contains xs x → test x ≡ true → is_some (position test xs) ≡ true
found_there test xs x inside is = ap is_some (position_from-zero test xs) ∙ found_from test 0 xs ∙ any_passes test xs x inside is

pub place_there : {X : Type 0} (o : Option X) → is_some o ≡ true → (x : X) × (o ≡ Some x)
place_there None is = absurd (false≢true is)
place_there (Some x) is = (x, refl)

-- the number itself stands at its place
pub at_its_place : (ns : List ℕ) (n i : ℕ) → position (nat_eq n) ns ≡ Some i → (i < length ns) × (slice_get ns i ≡ Some n)
at_its_place ns n i is =
    let found = position-Some (nat_eq n) ns i 0 is in
    (found.0, slice_get-get_or ns i 0 found.0 ∙ ap Some (sym (eqb-true n (get_or ns i 0) found.1)))

pub got_replicate : {X : Type 0} (n i : ℕ) (x : X) → i < n → slice_get (replicate n x) i ≡ Some x
got_replicate n i x within =
    slice_get-get_or (replicate n x) i x (omega (arith, length-replicate n x, within)) ∙ ap Some (get_or-replicate n i x x within)
