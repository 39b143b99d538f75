use Rattle.std.proofs.Common.{◌≡◌, ℕ, suc, ◌+◌, ◌-◌, ◌*◌, ◌^◌, ◌<◌, ◌≤◌, List, ℤ, All, length, get_or, take, drop, pos, unsigned_abs, sym, ap, ◌∙◌, subst, arith, rules, to_z, of_z, w64}
use Rattle.std.proofs.lemmas.Int.{to_z-of_z, fits_signed_from_abs}
use Rattle.std.proofs.lemmas.List.{take_rest, length-drop}
use Rattle.std.proofs.lemmas.List.Elements.{All-get_or, All-drop}
use Rattle.fixed_num.specs.Numbers.{IsCoordinate}
use Rattle.grid_index.specs.Places.{HasDigits, digit, place_from}
use Rattle.grid_index.specs.declared.axis.Axis.{Axis}
use Rattle.grid_index.proofs.Blocks.{DigitsSplit, HasDigits-split}
use Rattle.grid_index.proofs.BoxLemmas.{rows_within, place_fits}
use Rattle.grid_index.proofs.axis.+place_from.Goals as goal

one_more : (axes : List Axis) → 0 < length axes → length axes ≡ suc (length (drop 1 axes))
one_more axes some = omega (arith, length-drop 1 axes)

-- the first digit as it is read
first_digit : (c result : ℕ) (axes : List Axis) (vertex : List ℤ) → DigitsSplit c axes vertex (record { least = pos 0; width = 0 }) → All IsCoordinate vertex
    → result ≡ digit (get_or axes 0 (record { least = pos 0; width = 0 })) (to_z w64 (of_z w64 (get_or vertex 0 (pos 0))))
    → result ≡ digit (get_or axes 0 (record { least = pos 0; width = 0 })) (get_or vertex 0 (pos 0))
first_digit c result axes vertex parts all is =
    let coordinate = All-get_or IsCoordinate vertex 0 (pos 0) parts.some all in
    let small : unsigned_abs (get_or vertex 0 (pos 0)) < 2 ^ 63 = omega (arith, coordinate) in
    is ∙ ap (digit (get_or axes 0 (record { least = pos 0; width = 0 }))) (to_z-of_z w64 (get_or vertex 0 (pos 0)) (fits_signed_from_abs w64 (get_or vertex 0 (pos 0)) small))

pub overflow_mul-place : goal.overflow_mul-place
overflow_mul-place t c =
    let parts = HasDigits-split c.args.per_axis c.args.axes.now c.args.vertex.now (record { least = pos 0; width = 0 }) (omega arith) c.requires.digits in
    let room = subst (λ (n : ℕ). (c.args.so_far + 1) * c.args.per_axis ^ n ≤ 10 ^ 4) (one_more c.args.axes.now (omega arith)) c.requires.room in
    let within = place_fits c.args.so_far c.args.per_axis 0 (length (drop 1 c.args.axes.now)) (10 ^ 4) (omega (arith, parts.below)) room in
    omega (arith, within)

pub bounds-vertex-0 : goal.bounds-vertex-0
bounds-vertex-0 t c =
    let parts = HasDigits-split c.args.per_axis c.args.axes.now c.args.vertex.now (record { least = pos 0; width = 0 }) (omega arith) c.requires.digits in
    let some = parts.some in
    search rules

pub overflow_add-place : goal.overflow_add-place
overflow_add-place t c =
    let parts = HasDigits-split c.args.per_axis c.args.axes.now c.args.vertex.now (record { least = pos 0; width = 0 }) (omega arith) c.requires.digits in
    let room = subst (λ (n : ℕ). (c.args.so_far + 1) * c.args.per_axis ^ n ≤ 10 ^ 4) (one_more c.args.axes.now (omega arith)) c.requires.room in
    let is = first_digit c.args.per_axis c.digit.result c.args.axes.now c.args.vertex.now parts c.requires.coordinates c.digit.ensures in
    let within = place_fits c.args.so_far c.args.per_axis c.digit.result (length (drop 1 c.args.axes.now)) (10 ^ 4) (omega (arith, parts.below, is)) room in
    omega (arith, within)

pub place_from-requires : goal.place_from-requires
place_from-requires t c =
    let parts = HasDigits-split c.args.per_axis c.args.axes.now c.args.vertex.now (record { least = pos 0; width = 0 }) (omega arith) c.requires.digits in
    let room = subst (λ (n : ℕ). (c.args.so_far + 1) * c.args.per_axis ^ n ≤ 10 ^ 4) (one_more c.args.axes.now (omega arith)) c.requires.room in
    let is = first_digit c.args.per_axis c.digit.result c.args.axes.now c.args.vertex.now parts c.requires.coordinates c.digit.ensures in
    let rows = rows_within c.args.so_far c.args.per_axis c.digit.result (length (drop 1 c.args.axes.now)) (10 ^ 4) (omega (arith, parts.below, is)) room in (
      search rules,
      (
        rw (take_rest c.args.axes.now 1) (rw (take_rest c.args.vertex.now 1) parts.others),
        (
          rw (take_rest c.args.vertex.now 1) (All-drop IsCoordinate 1 c.args.vertex.now c.requires.coordinates),
          rw (take_rest c.args.axes.now 1) rows,
        ),
      ),
    )
