-- The points of a line: how many there are, and that they stand between its ends.
use Rattle.std.proofs.Common.{◌≡◌, ℕ, zero, suc, ◌+◌, ◌-◌, ◌*◌, ◌^◌, ◌<◌, ◌≤◌, Bool, true, false, cond, inl, inr, List, [], ◌∷◌, ◌++◌, length, map, get_or, min, ℤ, pos, ◌-ℤ◌, ◌*ℤ◌, unsigned_abs, All, refl, ap, sym, ◌∙◌, arith}
use Rattle.std.specs.Prelude.{nat_lt}
use Rattle.std.specs.List.{range_with_len}
use Rattle.std.proofs.lemmas.Bool.{ltb-true}
use Rattle.std.proofs.lemmas.Int.{ints}
use Rattle.std.proofs.lemmas.List.{length-map}
use Rattle.std.proofs.lemmas.List.FromFn.{length-map-range_with_len, map-range_with_len_more}
use Rattle.std.proofs.lemmas.List.Elements.{All-nil, All-cons, All-head, All-tail}
use Rattle.std.proofs.lemmas.Slice.Zip.{length-zip}
use Rattle.fixed_num.specs.Numbers.{IsValue, IsCoordinate, quotient}
use Rattle.waveform.proofs.Lines.{quotient-part, part-le}
use Rattle.case_rigs.specs.Lines.{coordinate_after, line_coordinate, line_point, line_points}

value_of : (z : ℤ) → IsCoordinate z → IsValue z
value_of z h = omega (arith, h)

-- the rounded part of the change between two coordinates is small
pub part_small : (over spans : ℕ) (from to : ℤ) → 0 < spans → over ≤ spans → IsCoordinate from → IsCoordinate to
    → unsigned_abs (quotient ((to -ℤ from) *ℤ pos over) spans) ≤ 2 * 10 ^ 13
part_small over spans from to some within first last = part-le from to over spans some within (value_of from first) (value_of to last)

-- what is between two coordinates is one
pub coordinate_after-range : (over spans : ℕ) (from to : ℤ) → 0 < spans → over ≤ spans → IsCoordinate from → IsCoordinate to → IsCoordinate (coordinate_after over spans from to)
coordinate_after-range over spans from to some within first last =
    elim (quotient-part (to -ℤ from) over spans some within) [
      | inl w ↦ omega (arith, ints, w.0, w.1, first, last)
      | inr w ↦ omega (arith, ints, w.0, w.1, first, last)
    ]

pub line_coordinate-range : (count vertex : ℕ) (from to : ℤ) → vertex < count → IsCoordinate from → IsCoordinate to → IsCoordinate (line_coordinate count vertex from to)
line_coordinate-range count vertex from to below first last = by (nat_lt 1 count) refl
  where
    by : (b : Bool) → nat_lt 1 count ≡ b → IsCoordinate (cond b (coordinate_after vertex (count - 1) from to) from)
    by true more = coordinate_after-range vertex (count - 1) from to (omega (arith, ltb-true 1 count more)) (omega (arith, below)) first last
    by false one = first

-- a coordinate of a point
pub get_or-line_point : (count vertex : ℕ) (from to : List ℤ) (axis : ℕ) (d : ℤ) → axis < length from → axis < length to
    → get_or (line_point count vertex from to) axis d ≡ line_coordinate count vertex (get_or from axis d) (get_or to axis d)
get_or-line_point count vertex [] to axis d h g = absurd (omega (arith, h))
get_or-line_point count vertex (x ∷ from) [] axis d h g = absurd (omega (arith, g))
get_or-line_point count vertex (x ∷ from) (y ∷ to) zero d h g = refl
get_or-line_point count vertex (x ∷ from) (y ∷ to) (suc axis) d h g = get_or-line_point count vertex from to axis d (omega (arith, h)) (omega (arith, g))

pub length-line_point : (count vertex : ℕ) (from to : List ℤ) (n : ℕ) → length from ≡ n → length to ≡ n → length (line_point count vertex from to) ≡ n
length-line_point count vertex from to n first last =
    let long : length (line_point count vertex from to) ≡ min (length from) (length to) = simp (length-map, length-zip) in
    omega (arith, long, first, last)

pub line_point-range : (count vertex : ℕ) (from to : List ℤ) → vertex < count → All IsCoordinate from → All IsCoordinate to → All IsCoordinate (line_point count vertex from to)
line_point-range count vertex [] to below first last = All-nil IsCoordinate
line_point-range count vertex (x ∷ from) [] below first last = All-nil IsCoordinate
line_point-range count vertex (x ∷ from) (y ∷ to) below first last =
    All-cons IsCoordinate (line_coordinate count vertex x y) (line_point count vertex from to)
    (line_coordinate-range count vertex x y below (All-head IsCoordinate x from first) (All-head IsCoordinate y to last))
    (line_point-range count vertex from to below (All-tail IsCoordinate x from first) (All-tail IsCoordinate y to last))

-- how many points there are
pub length-line_points : (count : ℕ) (from to : List ℤ) → length (line_points count from to) ≡ count
length-line_points count from to = length-map-range_with_len (λ vertex. line_point count vertex from to) 0 count

-- one point more
pub points_more : (count vertex : ℕ) (from to : List ℤ) (old new : List (List ℤ)) → new ≡ old ++ line_point count vertex from to ∷ []
    → old ≡ map (λ v. line_point count v from to) (range_with_len 0 vertex) → new ≡ map (λ v. line_point count v from to) (range_with_len 0 (vertex + 1))
points_more count vertex from to old new pushed before =
    let f : ℕ → List ℤ = λ v. line_point count v from to in
    pushed ∙ ap (λ (ps : List (List ℤ)). ps ++ f vertex ∷ []) before ∙ sym (map-range_with_len_more f 0 vertex vertex (omega arith))
