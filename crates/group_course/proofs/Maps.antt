-- Lists made item by item, put together.
use Rattle.std.proofs.Common.{◌≡◌, ℕ, ◌+◌, ◌++◌, List, [], ◌∷◌, take, map, Some, arith, refl, ap, ◌∙◌}
use Rattle.std.specs.Prelude.{slice_get}
use Rattle.std.proofs.lemmas.List.{length-map, get_or-map, take_more, map_more}
use Rattle.std.proofs.lemmas.Option.{slice_get_within, get_or_from_slice_get}
use Rattle.cpl_plan.specs.declared.parts.Measure.{Measure}
use Rattle.convergence.specs.declared.measured.Measured.{Measured}
use Rattle.convergence.specs.Holds.{measured}
use Rattle.acceleration.specs.Exchanged.{Exchanged, exchange_of, exchanged}
use Rattle.wave_coupling.specs.Posts.{Wave}

pub exchanged-map : (f : ℕ → ℕ) (g h : ℕ → Wave) (xs : List ℕ) → exchanged (map f xs) (map g xs) (map h xs) ≡ map (λ x. exchange_of (f x) (g x) (h x)) xs
exchanged-map f g h [] = refl
exchanged-map f g h (x ∷ xs) = ap (λ (es : List Exchanged). exchange_of (f x) (g x) (h x) ∷ es) (exchanged-map f g h xs)

abbrev with_norms : (f g h : Measure → ℕ) → Measure → Measured
with_norms f g h m = record { measure = m; change = f m; size = g m; first = h m }

pub measured-map : (f g h : Measure → ℕ) (ms : List Measure) → measured ms (map f ms) (map g ms) (map h ms) ≡ map (λ m. record { measure = m; change = f m; size = g m; first = h m }) ms
measured-map f g h [] = refl
measured-map f g h (m ∷ ms) = ap (λ (all : List Measured). with_norms f g h m ∷ all) (measured-map f g h ms)

-- one item more of a list that is made item by item
pub taken_next : {X Y : Type 0} (f : X → Y) (xs : List X) (i : ℕ) (x : X) → slice_get xs i ≡ Some x → take (i + 1) (map f xs) ≡ take i (map f xs) ++ f x ∷ []
taken_next {X} {Y} f xs i x is =
    let inside = slice_get_within xs i x is in
    take_more (map f xs) i (f x) (omega (arith, inside, length-map xs f))
    ∙ ap (λ (y : Y). take i (map f xs) ++ y ∷ []) (get_or-map f xs i x (f x) inside ∙ ap f (get_or_from_slice_get xs i x x is))

pub mapped_next : {X Y : Type 0} (f : X → Y) (xs : List X) (i : ℕ) (x : X) → slice_get xs i ≡ Some x → map f (take (i + 1) xs) ≡ map f (take i xs) ++ f x ∷ []
mapped_next {X} {Y} f xs i x is =
    map_more f xs i x (slice_get_within xs i x is) ∙ ap (λ (z : X). map f (take i xs) ++ f z ∷ []) (get_or_from_slice_get xs i x x is)

pub take_next : {X : Type 0} (xs : List X) (i : ℕ) (x : X) → slice_get xs i ≡ Some x → take (i + 1) xs ≡ take i xs ++ x ∷ []
take_next {X} xs i x is =
    take_more xs i x (slice_get_within xs i x is) ∙ ap (λ (z : X). take i xs ++ z ∷ []) (get_or_from_slice_get xs i x x is)
