-- Where the first value stands that is out of range, of lists that are put together.
use Rattle.std.proofs.Common.{◌≡◌, ℕ, zero, suc, ◌+◌, ◌<◌, Bool, not, Option, Some, None, List, [], ◌∷◌, ◌++◌, length, get_or, take, map, All, ℤ, pos, arith, refl, ap, ◌∙◌}
use Rattle.std.specs.List.{find, enumerate_from}
use Rattle.std.specs.Option.{option_map, option_or}
use Rattle.std.proofs.lemmas.List.Elements.{All-head, All-tail}
use Rattle.std.proofs.lemmas.List.Folds.{find-append}
use Rattle.fixed_num.specs.Numbers.{IsValue, is_value}
use Rattle.fixed_num.proofs.ValueTests.{is_value-true, is_value-false}
use Rattle.acceleration.specs.Outside.{Location, located_values, first_outside}

abbrev Placed : Type 0
Placed = Location × ℤ

abbrev is_outside : Placed → Bool
is_outside v = not (is_value v.1)

abbrev location_of : Option Placed → Option Location
location_of found = option_map (λ (v : Placed). v.0) found

found-none : (o p : Option Placed) → location_of o ≡ None → location_of (option_or o p) ≡ location_of p
found-none None p h = refl
found-none (Some v) p h = cc

found-some : (o p : Option Placed) (location : Location) → location_of o ≡ Some location → location_of (option_or o p) ≡ Some location
found-some None p location h = cc
found-some (Some v) p location h = h

-- nothing is found in the first of two lists
pub first_outside-none : (a b : List (Location × ℤ)) → first_outside a ≡ None → first_outside (a ++ b) ≡ first_outside b
unfolding first_outside
first_outside-none a b none = ap location_of (find-append is_outside a b) ∙ found-none (find is_outside a) (find is_outside b) none

-- what is found in the first is found in both
pub first_outside-some : (a b : List (Location × ℤ)) (location : Location) → first_outside a ≡ Some location → first_outside (a ++ b) ≡ Some location
unfolding first_outside
first_outside-some a b location some = ap location_of (find-append is_outside a b) ∙ found-some (find is_outside a) (find is_outside b) location some

pub first_outside-nil : first_outside [] ≡ None
unfolding first_outside
first_outside-nil = refl

pub first_outside-in : (location : Location) (v : ℤ) (more : List (Location × ℤ)) → IsValue v → first_outside ((location, v) ∷ more) ≡ first_outside more
unfolding first_outside
first_outside-in location v more small = rw (is_value-true v small) refl

pub first_outside-out : (location : Location) (v : ℤ) (more : List (Location × ℤ)) → ¬ (IsValue v) → first_outside ((location, v) ∷ more) ≡ Some location
unfolding first_outside
first_outside-out location v more large = rw (is_value-false v large) refl

abbrev pub locations_from : (n place time : ℕ) → List ℤ → List (Location × ℤ)
locations_from n place time values = map (λ (v : ℕ × ℤ). (record { place = place; time = time; component = v.0 }, v.1)) (enumerate_from n values)

none_from : (n place time : ℕ) (values : List ℤ) → All IsValue values → first_outside (locations_from n place time values) ≡ None
none_from n place time [] small = first_outside-nil
none_from n place time (v ∷ values) small =
    first_outside-in (record { place = place; time = time; component = n }) v (locations_from (n + 1) place time values) (All-head IsValue v values small)
    ∙ none_from (n + 1) place time values (All-tail IsValue v values small)

some_from : (n place time : ℕ) (values : List ℤ) (i : ℕ) → All IsValue (take i values) → i < length values → ¬ (IsValue (get_or values i (pos 0)))
    → first_outside (locations_from n place time values) ≡ Some (record { place = place; time = time; component = n + i })
some_from n place time [] i small inside large = absurd (omega arith)
some_from n place time (v ∷ values) zero small inside large =
    let at : n ≡ n + 0 = omega arith in
    first_outside-out (record { place = place; time = time; component = n }) v (locations_from (n + 1) place time values) large
    ∙ ap (λ (k : ℕ). Some (record { place = place; time = time; component = k })) at
some_from n place time (v ∷ values) (suc i) small inside large =
    let at : n + 1 + i ≡ n + suc i = omega arith in
    first_outside-in (record { place = place; time = time; component = n }) v (locations_from (n + 1) place time values) (All-head IsValue v (take i values) small)
    ∙ some_from (n + 1) place time values i (All-tail IsValue v (take i values) small) (omega arith) large
    ∙ ap (λ (k : ℕ). Some (record { place = place; time = time; component = k })) at

-- no value of a field is out of range
pub values_inside : (place time : ℕ) (values : List ℤ) → All IsValue values → first_outside (located_values place time values) ≡ None
values_inside place time values small = none_from 0 place time values small

-- component i is the first that is
pub values_outside : (place time : ℕ) (values : List ℤ) (i : ℕ) → All IsValue (take i values) → i < length values → ¬ (IsValue (get_or values i (pos 0)))
    → first_outside (located_values place time values) ≡ Some (record { place = place; time = time; component = i })
values_outside place time values i small inside large =
    let at : 0 + i ≡ i = omega arith in
    some_from 0 place time values i small inside large ∙ ap (λ (k : ℕ). Some (record { place = place; time = time; component = k })) at
