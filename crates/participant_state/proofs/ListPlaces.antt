-- Lists with one item changed, and places that are found in them.
use Rattle.std.proofs.Common.{◌≡◌, ◌≢◌, ℕ, zero, suc, ◌+◌, Bool, not, nat_lt, cond, List, [], ◌∷◌, map, length, slice_get, Option, Some, None, refl, ap, ap₂, ◌∙◌}
use Rattle.std.specs.Prelude.{option_map, position}
use Rattle.std.specs.List.{position_or_len}
use Rattle.std.specs.Option.{option_map_or}
use Rattle.std.proofs.lemmas.List.{length-map}
use Rattle.participant_tables.specs.AtPlace.{at_place}
use Rattle.participant_words.specs.Entries.{changed_at}

place_mapped : {X Y : Type 0} (p : Y → Bool) (q : X → Bool) (f : X → Y) (xs : List X) → ((x : X) → p (f x) ≡ q x) → position_or_len p (map f xs) ≡ position_or_len q xs
place_mapped p q f [] same = refl
place_mapped p q f (x ∷ xs) same = ap₂ (λ (b : Bool) (n : ℕ). cond (not b) (1 + n) 0) (same x) (place_mapped p q f xs same)

-- a place is the same among items that are seen otherwise
pub position_mapped : {X Y : Type 0} (p : Y → Bool) (q : X → Bool) (f : X → Y) (xs : List X) → ((x : X) → p (f x) ≡ q x) → position p (map f xs) ≡ position q xs
position_mapped p q f xs same =
    ap₂ (λ (k n : ℕ). cond (nat_lt k n) (Some k) None) (place_mapped p q f xs same) (length-map xs f)

pub same_map : {X Y : Type 0} (f g : X → Y) → ((x : X) → f x ≡ g x) → (xs : List X) → map f xs ≡ map g xs
same_map f g same [] = refl
same_map f g same (x ∷ xs) = ap (λ y. y ∷ map f xs) (same x) ∙ ap (λ ys. g x ∷ ys) (same_map f g same xs)

pub map_or_map : {X Y Z : Type 0} (f : Y → Z) (g : X → Y) (d : Z) (o : Option X) → option_map_or f (option_map g o) d ≡ option_map_or (λ x. f (g x)) o d
map_or_map f g d None = refl
map_or_map f g d (Some x) = refl

-- an item is changed in a list, and so in what is seen of the list
pub map_at_place : {X Y : Type 0} (f : X → Y) (g : X → X) (h : Y → Y) (xs : List X) (i : ℕ) → ((x : X) → slice_get xs i ≡ Some x → f (g x) ≡ h (f x))
    → map f (at_place g i xs) ≡ changed_at h i (map f xs)
unfolding at_place
map_at_place f g h [] i same = refl
map_at_place f g h (x ∷ xs) zero same = ap (λ y. y ∷ map f xs) (same x refl)
map_at_place f g h (x ∷ xs) (suc i) same = ap (λ ys. f x ∷ ys) (map_at_place f g h xs i same)

-- it is not seen where the change does not touch what is seen
pub map_untouched : {X Y : Type 0} (f : X → Y) (g : X → X) (xs : List X) (i : ℕ) → ((x : X) → f (g x) ≡ f x) → map f (at_place g i xs) ≡ map f xs
unfolding at_place
map_untouched f g [] i same = refl
map_untouched f g (x ∷ xs) zero same = ap (λ y. y ∷ map f xs) (same x)
map_untouched f g (x ∷ xs) (suc i) same = ap (λ ys. f x ∷ ys) (map_untouched f g xs i same)

pub map_all_untouched : {X Y : Type 0} (f : X → Y) (g : X → X) (xs : List X) → ((x : X) → f (g x) ≡ f x) → map f (map g xs) ≡ map f xs
map_all_untouched f g [] same = refl
map_all_untouched f g (x ∷ xs) same = ap (λ y. y ∷ map f (map g xs)) (same x) ∙ ap (λ ys. f x ∷ ys) (map_all_untouched f g xs same)

-- two changes at a place are one where they do the same to what stands there
pub at_place_is : {X : Type 0} (f g : X → X) (xs : List X) (i : ℕ) → ((x : X) → slice_get xs i ≡ Some x → f x ≡ g x) → at_place f i xs ≡ changed_at g i xs
unfolding at_place
at_place_is f g [] i same = refl
at_place_is f g (x ∷ xs) zero same = ap (λ y. y ∷ xs) (same x refl)
at_place_is f g (x ∷ xs) (suc i) same = ap (λ ys. x ∷ ys) (at_place_is f g xs i same)

pub length-at_place : {X : Type 0} (f : X → X) (xs : List X) (i : ℕ) → length (at_place f i xs) ≡ length xs
unfolding at_place
length-at_place f [] i = refl
length-at_place f (x ∷ xs) zero = refl
length-at_place f (x ∷ xs) (suc i) = ap suc (length-at_place f xs i)

pub at_this_place : {X : Type 0} (f : X → X) (xs : List X) (i : ℕ) (x : X) → slice_get xs i ≡ Some x → slice_get (at_place f i xs) i ≡ Some (f x)
unfolding at_place
at_this_place f [] i x is = cc
at_this_place {X} f (y ∷ ys) zero x is = ap (λ (o : Option X). option_map f o) is
at_this_place f (y ∷ ys) (suc i) x is = at_this_place f ys i x is

pub at_other_place : {X : Type 0} (f : X → X) (xs : List X) (i k : ℕ) → i ≢ k → slice_get (at_place f i xs) k ≡ slice_get xs k
unfolding at_place
at_other_place f [] i k apart = refl
at_other_place f (x ∷ xs) zero zero apart = absurd (apart refl)
at_other_place f (x ∷ xs) zero (suc k) apart = refl
at_other_place f (x ∷ xs) (suc i) zero apart = refl
at_other_place f (x ∷ xs) (suc i) (suc k) apart = at_other_place f xs i k (λ same. apart (ap suc same))
