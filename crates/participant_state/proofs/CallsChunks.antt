-- Coordinates as points, told in two ways.
use Rattle.std.proofs.Common.{◌≡◌, ℕ, zero, suc, ◌+◌, ◌*◌, ◌/◌, List, ◌∷◌, map, take, drop, length, ℤ, refl, ap, ◌∙◌, arith}
use Rattle.std.specs.List.{range_with_len}
use Rattle.std.specs.Simd.{first_chunks}
use Rattle.std.proofs.lemmas.List.{drop-drop}
use Rattle.participant_tables.specs.Vertices.{points_in as chunks_in}
use Rattle.participant_words.specs.Entries.{points_in}

chunks_from : (d k s : ℕ) (xs : List ℤ) → first_chunks d k (drop (s * d) xs) ≡ map (λ i. take d (drop (i * d) xs)) (range_with_len s k)
chunks_from d zero s xs = refl
chunks_from d (suc k) s xs =
    let next : s * d + d ≡ (s + 1) * d = omega arith in
    let rest = ap (first_chunks d k) (drop-drop d (s * d) xs ∙ ap (λ (n : ℕ). drop n xs) next) ∙ chunks_from d k (s + 1) xs in
    ap (λ (points : List (List ℤ)). take d (drop (s * d) xs) ∷ points) rest

pub points_same : (d : ℕ) (xs : List ℤ) → chunks_in d xs ≡ points_in d xs
points_same d xs =
    let first : 0 ≡ 0 * d = omega arith in
    ap (λ (n : ℕ). first_chunks d (length xs / d) (drop n xs)) first ∙ chunks_from d (length xs / d) 0 xs

pub length-chunks : {X : Type 0} (d k : ℕ) (xs : List X) → length (first_chunks d k xs) ≡ k
length-chunks d zero xs = refl
length-chunks d (suc k) xs = ap suc (length-chunks d k (drop d xs))
