-- The foot among candidates, one more at a time, and the foot as a function.
use Rattle.std.proofs.Common.{◌≡◌, ℕ, ◌+◌, ◌*◌, ◌/◌, ◌%◌, ◌<◌, ◌≤◌, Bool, true, false, leb, List, ℤ, get_or, refl, sym, ap, ◌∙◌, inl, inr, arith}
use Rattle.std.specs.List.{list_all}
use Rattle.std.proofs.lemmas.Bool.{le-leb, leb-true, cases_lt}
use Rattle.std.proofs.lemmas.List.{get_or_default}
use Rattle.std.proofs.lemmas.List.Sums.{position_or_len_is, AllPass-from_list_all, list_all-from_AllPass}
use Rattle.std.proofs.lemmas.Nat.{div-add-mod', div_below, mod_below, row_fits}
use Rattle.edge_projection.specs.declared.edge.Edge.{Edge}
use Rattle.edge_projection.specs.declared.edge.Foot.{Foot}
use Rattle.edge_projection.specs.Places.{places, ComesBefore}
use Rattle.edge_projection.specs.NearestFoot.{IsFirstLeast, first_least, candidate_count, weight_count, square_at, foot_at, IsFootOn, IsFootAmong, IsFoot, nearest_foot}
use Rattle.edge_projection.proofs.Places.{length-places, get_or-places, place_at}

not_true : (b : Bool) → (b ≡ true → ⊥) → b ≡ false
not_true true h = absurd (h refl)
not_true false h = refl

-- an earlier place has a lower index, and a lower index is an earlier place
earlier_place : (k n m columns : ℕ) → 0 < columns → m < columns → k < n * columns + m → ComesBefore (k / columns) (k % columns) n m
earlier_place k n m columns some column before =
    let whole = div-add-mod' k columns in
    let rest = mod_below k columns some in
    elim (cases_lt (k / columns) n) [
      | inl row ↦ inl row
      | inr more ↦ elim (cases_lt n (k / columns)) [
        | inl past ↦ absurd (omega (arith, whole, before, column, row_fits n columns (k / columns) columns past (omega arith)))
        | inr here ↦
            let same : k / columns ≡ n = omega arith in
            let rows = ap (λ (r : ℕ). r * columns) same in
            inr (same, omega (arith, whole, before, rows))
      ]
    ]

-- the function gives the pair
pub first_least-is : (numbers weights : ℕ) (square : ℕ → ℕ → ℕ) (n m : ℕ) → IsFirstLeast numbers weights square n m → first_least numbers weights square ≡ (n, m)
unfolding first_least
first_least-is numbers weights square n m is =
    let size = length-places numbers weights in
    let inside : n * weights + m < numbers * weights = omega (arith, is.weight, row_fits n weights numbers weights is.number (omega arith)) in
    let here = get_or-places numbers weights n m (0, 0) is.number is.weight in
    let at : (k : ℕ) → k < numbers * weights → get_or (places numbers weights) k (0, 0) ≡ (k / weights, k % weights) = λ k within. place_at numbers weights k (0, 0) within in
    let row : (k : ℕ) → k < numbers * weights → k / weights < numbers = λ k within. div_below k weights numbers (omega (arith, is.weight)) within in
    let column : (k : ℕ) → k % weights < weights = λ k. mod_below k weights (omega (arith, is.weight)) in
    let test : ℕ × ℕ → ℕ × ℕ → Bool = λ t u. leb (square t.0 t.1) (square u.0 u.1) in
    let place = position_or_len_is (λ (t : ℕ × ℕ). list_all (λ (u : ℕ × ℕ). leb (square t.0 t.1) (square u.0 u.1)) (places numbers weights)) (places numbers weights) (n * weights + m) (0, 0) (omega (arith, size, inside))
    (λ k before. not_true (list_all (λ (u : ℕ × ℕ). leb (square (get_or (places numbers weights) k (0, 0)).0 (get_or (places numbers weights) k (0, 0)).1) (square u.0 u.1)) (places numbers weights))
    (λ all.
    let within : k < numbers * weights = omega (arith, inside, before) in
    let passes = AllPass-from_list_all (λ (u : ℕ × ℕ). leb (square (get_or (places numbers weights) k (0, 0)).0 (get_or (places numbers weights) k (0, 0)).1) (square u.0 u.1)) (places numbers weights) all (n * weights + m) (0, 0) (omega (arith, size, inside)) in
    let less = is.first (k / weights) (k % weights) (row k within) (column k) (earlier_place k n m weights (omega (arith, is.weight)) is.weight before) in
    let near = leb-true (square (k / weights) (k % weights)) (square n m) (rw (at k within, here) at passes) in
    absurd (omega (arith, near, less))))
    (λ _. list_all-from_AllPass (λ (u : ℕ × ℕ). leb (square (get_or (places numbers weights) (n * weights + m) (0, 0)).0 (get_or (places numbers weights) (n * weights + m) (0, 0)).1) (square u.0 u.1)) (places numbers weights)
    (λ k d within.
    let inside : k < numbers * weights = omega (arith, size, within) in
    rw (get_or_default (places numbers weights) k d (0, 0) within, at k inside, here)
    (le-leb (square n m) (square (k / weights) (k % weights)) (is.least (k / weights) (k % weights) (row k inside) (column k))))) in
    ap (λ (k : ℕ). get_or (places numbers weights) k (0, 0)) place ∙ here

-- the foot as a function
pub nearest_foot-is : (mesh : List (List ℤ)) (edges : List Edge) (point : List ℤ) (foot : Foot) → IsFoot mesh edges point foot → foot ≡ nearest_foot mesh edges point
unfolding nearest_foot
nearest_foot-is mesh edges point foot is =
    let pair = first_least-is (candidate_count mesh edges) weight_count (square_at mesh edges point) foot.number foot.weight is.least in
    is.is ∙ ap (λ (pair : ℕ × ℕ). foot_at mesh edges point pair.0 pair.1) (sym pair)

-- the foot on the first candidate
pub first-IsFootAmong : (mesh : List (List ℤ)) (edges : List Edge) (point : List ℤ) (foot : Foot) → IsFootOn mesh edges point 0 foot → IsFootAmong 1 mesh edges point foot
first-IsFootAmong mesh edges point foot on =
    let number : foot.number ≡ 0 = ap (λ (f : Foot). f.number) on.is in
    record {
      is = on.is ∙ ap (λ (n : ℕ). foot_at mesh edges point n foot.weight) (sym number);
      least = rw number (record {
        number = omega arith;
        weight = on.weight;
        least = λ k j among weight. let first : k ≡ 0 = omega arith in rw first (on.least j weight);
        first = λ k j among weight before. elim before [
          | inl row ↦ absurd (omega arith)
          | inr same ↦ rw same.0 (on.first j same.1)
        ];
      });
    }

square_of : (mesh : List (List ℤ)) (edges : List Edge) (point : List ℤ) (foot : Foot) (n : ℕ) → foot ≡ foot_at mesh edges point n foot.weight → foot.square ≡ square_at mesh edges point n foot.weight
square_of mesh edges point foot n is = ap (λ (f : Foot). f.square) is

-- a further candidate that is nearer
pub nearer-IsFootAmong : (n : ℕ) (mesh : List (List ℤ)) (edges : List Edge) (point : List ℤ) (best next : Foot) → IsFootAmong n mesh edges point best → IsFootOn mesh edges point n next
    → next.square < best.square → IsFootAmong (n + 1) mesh edges point next
nearer-IsFootAmong n mesh edges point best next among on nearer =
    let number : next.number ≡ n = ap (λ (f : Foot). f.number) on.is in
    let of_best = square_of mesh edges point best best.number among.is in
    let of_next = square_of mesh edges point next n on.is in
    record {
      is = on.is ∙ ap (λ (n : ℕ). foot_at mesh edges point n next.weight) (sym number);
      least = rw number (record {
        number = omega arith;
        weight = on.weight;
        least = λ k j within weight. elim (cases_lt k n) [
          | inl earlier ↦ omega (arith, of_best, of_next, nearer, among.least.least k j earlier weight)
          | inr last ↦ let here : k ≡ n = omega arith in rw here (on.least j weight)
        ];
        first = λ k j within weight before. elim before [
          | inl row ↦ omega (arith, of_best, of_next, nearer, among.least.least k j row weight)
          | inr same ↦ rw same.0 (on.first j same.1)
        ];
      });
    }

-- a further candidate that is not
pub no_nearer-IsFootAmong : (n : ℕ) (mesh : List (List ℤ)) (edges : List Edge) (point : List ℤ) (best next : Foot) → IsFootAmong n mesh edges point best → IsFootOn mesh edges point n next
    → best.square ≤ next.square → IsFootAmong (n + 1) mesh edges point best
no_nearer-IsFootAmong n mesh edges point best next among on no_nearer =
    let of_best = square_of mesh edges point best best.number among.is in
    let of_next = square_of mesh edges point next n on.is in
    record {
      is = among.is;
      least = record {
        number = omega (arith, among.least.number);
        weight = among.least.weight;
        least = λ k j within weight. elim (cases_lt k n) [
          | inl earlier ↦ among.least.least k j earlier weight
          | inr last ↦ let here : k ≡ n = omega arith in rw here (omega (arith, of_best, of_next, no_nearer, on.least j weight))
        ];
        first = λ k j within weight before. elim (cases_lt k n) [
          | inl earlier ↦ among.least.first k j earlier weight before
          | inr last ↦ absurd (elim before [
            | inl row ↦ omega (arith, row, among.least.number, last)
            | inr same ↦ omega (arith, same.0, among.least.number, last)
          ])
        ];
      };
    }
