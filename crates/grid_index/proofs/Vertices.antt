-- The axes of a mesh's cells, and its vertices' cell numbers on them.
use Rattle.std.proofs.Common.{◌≡◌, ℕ, zero, suc, ◌+◌, ◌-◌, ◌*◌, ◌/◌, ◌^◌, ◌<◌, ◌≤◌, min, ◌⊎◌, List, [], ◌∷◌, ℤ, pos, ◌-ℤ◌, ◌≤ℤ◌, unsigned_abs, length, map, fold, get_or, take, drop, All, refl, sym, ap, subst, ◌∙◌, inl, inr, arith, div-le_self}
use Rattle.std.specs.Int.{int_min, int_max}
use Rattle.std.specs.List.{range_with_len}
use Rattle.std.proofs.lemmas.Bool.{cases_lt}
use Rattle.std.proofs.lemmas.Int.{ints, fold-int_min_bounds, fold-int_min_reached, fold-int_max_bounds, fold-int_max_reached}
use Rattle.std.proofs.lemmas.List.{length-map, get_or-map, drop_more, drop_all}
use Rattle.std.proofs.lemmas.List.Elements.{All-get_or, All-from_get_or, All-contains, All-cons, All-nil, All-same, All-head, All-tail}
use Rattle.std.proofs.lemmas.List.FromFn.{length-map-range_with_len, get_or-map-range_with_len}
use Rattle.std.proofs.lemmas.List.Sums.{fold_more}
use Rattle.std.proofs.lemmas.Nat.{div_below}
use Rattle.fixed_num.specs.Numbers.{IsCoordinate}
use Rattle.mesh_data.specs.Meshes.{IsMesh}
use Rattle.mesh_data.specs.Points.{IsDimension, IsPoint}
use Rattle.grid_index.specs.Block.{least_width}
use Rattle.grid_index.specs.Cells.{Cells, AreCellsOf, axis_on, least_on, greatest_on, coordinate, coordinates}
use Rattle.grid_index.specs.Places.{HasDigits, digit}
use Rattle.grid_index.specs.declared.axis.Axis.{Axis}
use Rattle.grid_index.proofs.Powers.{le-power, power-one}
use Rattle.grid_index.proofs.Quotients.{share, div-le}

-- one vertex more
pub fold_next : (f : ℤ → ℤ → ℤ) (a : ℤ) (mesh : List (List ℤ)) (i v : ℕ) → v < length mesh
    → fold f a (take (v + 1) (coordinates mesh i)) ≡ f (fold f a (take v (coordinates mesh i))) (coordinate (get_or mesh v []) i)
fold_next f a mesh i v inside =
    let vertices = length-map mesh (λ (vertex : List ℤ). coordinate vertex i) in
    fold_more f a (coordinates mesh i) v (pos 0) (omega (arith, vertices))
    ∙ ap (f (fold f a (take v (coordinates mesh i)))) (get_or-map (λ (vertex : List ℤ). coordinate vertex i) mesh v [] (pos 0) inside)

-- each coordinate of a vertex is one
coordinate-IsCoordinate : (dimensions : ℕ) (mesh : List (List ℤ)) (i v : ℕ) → IsMesh dimensions mesh → i < dimensions → v < length mesh
    → IsCoordinate (coordinate (get_or mesh v []) i)
coordinate-IsCoordinate dimensions mesh i v is on inside =
    let point = All-get_or (IsPoint dimensions) mesh v [] inside is.points in
    All-get_or IsCoordinate (get_or mesh v []) i (pos 0) (omega (arith, point.one_for_each)) point.in_range

all-coordinates : (dimensions : ℕ) (mesh : List (List ℤ)) (i : ℕ) → IsMesh dimensions mesh → i < dimensions → All IsCoordinate (coordinates mesh i)
all-coordinates dimensions mesh i is on =
    let vertices = length-map mesh (λ (vertex : List ℤ). coordinate vertex i) in
    All-from_get_or IsCoordinate (coordinates mesh i) (pos 0)
    (λ v inside.
    let within : v < length mesh = omega (arith, vertices, inside) in
    subst IsCoordinate (sym (get_or-map (λ (vertex : List ℤ). coordinate vertex i) mesh v [] (pos 0) within)) (coordinate-IsCoordinate dimensions mesh i v is on within))

-- what is known of one axis
pub record IsAxis (dimensions : ℕ) (mesh : List (List ℤ)) (c i : ℕ) (axis : Axis) : Type 0 where
  pub least : IsCoordinate axis.least
  pub some : 0 < axis.width
  pub narrow : axis.width ≤ 10 ^ 13
  pub above : (v : ℕ) → v < length mesh → axis.least ≤ℤ coordinate (get_or mesh v []) i
  pub below : (v : ℕ) → v < length mesh → digit axis (coordinate (get_or mesh v []) i) < c

at_vertex : (P : ℤ → Type 0) (mesh : List (List ℤ)) (i v : ℕ) → v < length mesh → All P (coordinates mesh i) → P (coordinate (get_or mesh v []) i)
at_vertex P mesh i v inside all =
    let vertices = length-map mesh (λ (vertex : List ℤ). coordinate vertex i) in
    subst P (get_or-map (λ (vertex : List ℤ). coordinate vertex i) mesh v [] (pos 0) inside)
    (All-get_or P (coordinates mesh i) v (pos 0) (omega (arith, vertices, inside)) all)

digit_below : (least greatest x : ℤ) (c : ℕ) → 0 < c → least ≤ℤ x → x ≤ℤ greatest
    → unsigned_abs (x -ℤ least) / (unsigned_abs (greatest -ℤ least) / c + 1) < c
digit_below least greatest x c some low high =
    let reach = unsigned_abs (greatest -ℤ least) in
    let within : unsigned_abs (x -ℤ least) ≤ reach = omega (arith, ints) in
    div_below (unsigned_abs (x -ℤ least)) (reach / c + 1) c (omega arith) (omega (arith, within, share reach c some))

pub axis_on-IsAxis : (dimensions : ℕ) (mesh : List (List ℤ)) (c i : ℕ) → IsMesh dimensions mesh → 0 < length mesh → i < dimensions → 0 < c
    → IsAxis dimensions mesh c i (axis_on mesh c i)
axis_on-IsAxis dimensions mesh c i is some on cells =
    let first = coordinate (get_or mesh 0 []) i in
    let first_in = coordinate-IsCoordinate dimensions mesh i 0 is on some in
    let all_in = all-coordinates dimensions mesh i is on in
    let low = fold-int_min_bounds first (coordinates mesh i) (least_on mesh i) refl in
    let high = fold-int_max_bounds first (coordinates mesh i) (greatest_on mesh i) refl in
    let least_in : IsCoordinate (least_on mesh i) = elim (fold-int_min_reached first (coordinates mesh i) (least_on mesh i) refl) [
      | inl same ↦ subst IsCoordinate (sym same) first_in
      | inr among ↦ All-contains IsCoordinate (coordinates mesh i) (least_on mesh i) all_in among
    ] in
    let greatest_in : IsCoordinate (greatest_on mesh i) = elim (fold-int_max_reached first (coordinates mesh i) (greatest_on mesh i) refl) [
      | inl same ↦ subst IsCoordinate (sym same) first_in
      | inr among ↦ All-contains IsCoordinate (coordinates mesh i) (greatest_on mesh i) all_in among
    ] in
    let extent : unsigned_abs (greatest_on mesh i -ℤ least_on mesh i) ≤ 2 * 10 ^ 12 = omega (arith, ints, least_in, greatest_in) in
    let part = div-le (unsigned_abs (greatest_on mesh i -ℤ least_on mesh i)) (2 * 10 ^ 12) c cells extent in
    let whole = div-le_self (2 * 10 ^ 12) c in
    record {
      least = least_in;
      some = omega arith;
      narrow = omega (arith, part, whole);
      above = λ v inside. at_vertex (λ (x : ℤ). least_on mesh i ≤ℤ x) mesh i v inside low.1;
      below = λ v inside. digit_below (least_on mesh i) (greatest_on mesh i) (coordinate (get_or mesh v []) i) c cells
          (at_vertex (λ (x : ℤ). least_on mesh i ≤ℤ x) mesh i v inside low.1) (at_vertex (λ (x : ℤ). x ≤ℤ greatest_on mesh i) mesh i v inside high.1);
    }

-- the cell numbers of a vertex from axis i on
digits_from : (dimensions : ℕ) (mesh : List (List ℤ)) (c v i k : ℕ) → IsMesh dimensions mesh → v < length mesh → 0 < c → i + k ≡ dimensions
    → HasDigits c (map (axis_on mesh c) (range_with_len i k)) (drop i (get_or mesh v []))
digits_from dimensions mesh c v i zero is inside cells whole =
    let point = All-get_or (IsPoint dimensions) mesh v [] inside is.points in
    subst (HasDigits c []) (sym (drop_all i (get_or mesh v []) (omega (arith, point.one_for_each)))) tt
digits_from dimensions mesh c v i (suc k) is inside cells whole =
    let point = All-get_or (IsPoint dimensions) mesh v [] inside is.points in
    let axis = axis_on-IsAxis dimensions mesh c i is (omega arith) (omega arith) cells in
    subst (HasDigits c (map (axis_on mesh c) (range_with_len i (suc k)))) (sym (drop_more (get_or mesh v []) i (pos 0) (omega (arith, point.one_for_each))))
    (axis.some, axis.above v inside, axis.below v inside, digits_from dimensions mesh c v (i + 1) k is inside cells (omega arith))

pub record IsCut (dimensions : ℕ) (mesh : List (List ℤ)) (cells : Cells) : Type 0 where
  pub some : 0 < cells.per_axis
  pub small : cells.per_axis ≤ 10 ^ 4
  pub one_for_each : length cells.axes ≡ dimensions
  pub few : cells.per_axis ^ dimensions ≤ length mesh
  pub wide : All (λ (axis : Axis). 0 < axis.width) cells.axes
  pub narrow : All (λ (axis : Axis). axis.width ≤ 10 ^ 13) cells.axes
  pub least : All (λ (axis : Axis). IsCoordinate axis.least) cells.axes
  pub digits : All (HasDigits cells.per_axis cells.axes) mesh

all_axes : (P : Axis → Type 0) (mesh : List (List ℤ)) (c dimensions : ℕ) → ((i : ℕ) → i < dimensions → P (axis_on mesh c i))
    → All P (map (axis_on mesh c) (range_with_len 0 dimensions))
all_axes P mesh c dimensions each =
    let none : Axis = record { least = pos 0; width = 0 } in
    All-from_get_or P (map (axis_on mesh c) (range_with_len 0 dimensions)) none
    (λ i inside.
    let on : i < dimensions = omega (arith, length-map-range_with_len (axis_on mesh c) 0 dimensions, inside) in
    subst P (sym (get_or-map-range_with_len (axis_on mesh c) 0 dimensions i i none on (omega arith))) (each i on))

pub cells_cut : (dimensions : ℕ) (mesh : List (List ℤ)) (cells : Cells) → IsDimension dimensions → IsMesh dimensions mesh → 0 < length mesh → AreCellsOf dimensions mesh cells
    → IsCut dimensions mesh cells
cells_cut dimensions mesh cells is_dimension is some are =
    let c = cells.per_axis in
    let cut : 0 < c = elim (cases_lt 0 c) [
      | inl more ↦ more
      | inr none ↦
          let nothing : c ≡ 0 = omega arith in
          let one : (c + 1) ^ dimensions ≡ 1 = ap (λ (n : ℕ). (n + 1) ^ dimensions) nothing ∙ power-one dimensions in
          absurd (omega (arith, one, are.most))
    ] in
    let axes = map (axis_on mesh c) (range_with_len 0 dimensions) in
    let is_axis = λ (i : ℕ) (on : i < dimensions). axis_on-IsAxis dimensions mesh c i is some on cut in
    record {
      some = cut;
      small = omega (arith, le-power c dimensions cut is_dimension, are.few, is.few);
      one_for_each = ap length are.axes ∙ length-map-range_with_len (axis_on mesh c) 0 dimensions;
      few = are.few;
      wide = All-same (λ (axis : Axis). 0 < axis.width) cells.axes axes are.axes (all_axes (λ (axis : Axis). 0 < axis.width) mesh c dimensions (λ i on. (is_axis i on).some));
      narrow = All-same (λ (axis : Axis). axis.width ≤ 10 ^ 13) cells.axes axes are.axes (all_axes (λ (axis : Axis). axis.width ≤ 10 ^ 13) mesh c dimensions (λ i on. (is_axis i on).narrow));
      least = All-same (λ (axis : Axis). IsCoordinate axis.least) cells.axes axes are.axes (all_axes (λ (axis : Axis). IsCoordinate axis.least) mesh c dimensions (λ i on. (is_axis i on).least));
      digits = All-from_get_or (HasDigits c cells.axes) mesh []
          (λ v inside. subst (λ (axes : List Axis). HasDigits c axes (get_or mesh v [])) (sym are.axes) (digits_from dimensions mesh c v 0 dimensions is inside cut (omega arith)));
    }

-- the least of some widths
smallest : ℕ → List Axis → ℕ
smallest a axes = fold (λ (least : ℕ) (other : Axis). min least other.width) a axes

fold_min-le : (a : ℕ) (axes : List Axis) → smallest a axes ≤ a
unfolding smallest
fold_min-le a [] = omega arith
fold_min-le a (axis ∷ axes) = omega (arith, fold_min-le (min a axis.width) axes)

fold_min-each : (a : ℕ) (axes : List Axis) → All (λ (axis : Axis). smallest a axes ≤ axis.width) axes
unfolding smallest
fold_min-each a [] = All-nil (λ (axis : Axis). a ≤ axis.width)
fold_min-each a (axis ∷ axes) =
    All-cons (λ (other : Axis). smallest (min a axis.width) axes ≤ other.width) axis axes (omega (arith, fold_min-le (min a axis.width) axes)) (fold_min-each (min a axis.width) axes)

fold_min-some : (a : ℕ) (axes : List Axis) → 0 < a → All (λ (axis : Axis). 0 < axis.width) axes → 0 < smallest a axes
unfolding smallest
fold_min-some a [] some each = some
fold_min-some a (axis ∷ axes) some each =
    let first = All-head (λ (other : Axis). 0 < other.width) axis axes each in
    fold_min-some (min a axis.width) axes (omega (arith, first)) (All-tail (λ (other : Axis). 0 < other.width) axis axes each)

pub least_width-le : (axes : List Axis) → All (λ (axis : Axis). least_width axes ≤ axis.width) axes
unfolding smallest
least_width-le [] = All-nil (λ (axis : Axis). 0 ≤ axis.width)
least_width-le (axis ∷ axes) =
    All-cons (λ (other : Axis). smallest axis.width axes ≤ other.width) axis axes (fold_min-le axis.width axes) (fold_min-each axis.width axes)

pub least_width-some : (axes : List Axis) → 0 < length axes → All (λ (axis : Axis). 0 < axis.width) axes → 0 < least_width axes
unfolding smallest
least_width-some [] some each = absurd (omega arith)
least_width-some (axis ∷ axes) some each =
    fold_min-some axis.width axes (All-head (λ (other : Axis). 0 < other.width) axis axes each) (All-tail (λ (other : Axis). 0 < other.width) axis axes each)
