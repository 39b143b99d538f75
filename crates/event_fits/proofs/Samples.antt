-- Samples by their places, and the newest time of a post.
use Rattle.std.proofs.Common.{◌≡◌, ℕ, zero, suc, ◌+◌, ◌-◌, ◌<◌, ◌≤◌, List, [], ◌∷◌, length, map, take, get_or, slice_get, Option, Some, option_map, refl, sym, ap, subst, ◌∙◌}
use Rattle.std.specs.Prelude.{All}
use Rattle.std.specs.Option.{option_map_or}
use Rattle.std.proofs.lemmas.List.Elements.{All-more}
use Rattle.std.proofs.lemmas.List.{take_all}
use Rattle.std.proofs.lemmas.Option.{same_Some, slice_get-get_or, slice_get-map}
use Rattle.waveform.specs.IsWave.{last_time}
use Rattle.wave_coupling.specs.Posts.{Wave, Post, newest_sample, newest_time}

mapped_or : {X : Type 0} (f : X → ℕ) (xs : List X) (i : ℕ) → get_or (map f xs) i 0 ≡ option_map_or f (slice_get xs i) 0
mapped_or f [] i = refl
mapped_or f (x ∷ xs) zero = refl
mapped_or f (x ∷ xs) (suc i) = mapped_or f xs i

-- the newest time of a post is its first wave's
pub newest_is : (post : Post) (first : Wave) → slice_get post 0 ≡ Some first → last_time first ≡ newest_time post
newest_is post first at = mapped_or (λ s. s.time) first (length first - 1)
    ∙ sym (ap (λ (o : Option Wave). option_map_or (λ wave. option_map_or (λ sample. sample.time) (newest_sample wave) 0) o 0) at)

-- what is told of an element by its place
pub mapped_is : {X Y : Type 0} (f : X → Y) (xs : List X) (i : ℕ) (x : X) (y : Y) → slice_get xs i ≡ Some x → slice_get (map f xs) i ≡ Some y → f x ≡ y
mapped_is f xs i x y is at = same_Some (f x) y (sym (slice_get-map f xs i ∙ ap (option_map f) is) ∙ at)

-- one more element within a list
pub all_next : {X : Type 0} (P : X → Type 0) (xs : List X) (i : ℕ) → i < length xs → All P (take i xs) → ((x : X) → slice_get xs i ≡ Some x → P x) → All P (take (i + 1) xs)
all_next P xs i within before holds = λ k d below. All-more P xs i d within before (holds (get_or xs i d) (slice_get-get_or xs i d within)) k d below

-- all of them
pub all_of : {X : Type 0} (P : X → Type 0) (xs : List X) (i : ℕ) → length xs ≤ i → All P (take i xs) → All P xs
all_of {X} P xs i past before = subst (λ (ys : List X). All P ys) (take_all i xs past) before
