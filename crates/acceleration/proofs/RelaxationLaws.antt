-- What relaxation amounts to: by one, at a fixed point, and by a part.
use Rattle.std.proofs.Common.{◌≡◌, ℕ, ◌+◌, ◌^◌, ◌≤◌, inl, inr, None, List, [], ◌∷◌, length, get_or, All, ℤ, pos, negsuc, ◌+ℤ◌, ◌-ℤ◌, ◌*ℤ◌, unsigned_abs, arith, refl, ap, ◌∙◌}
use Rattle.std.specs.List.{enumerate_from, flat_map}
use Rattle.std.proofs.Math.IntN.{*ℤ_comm, *ℤ-zero}
use Rattle.std.proofs.lemmas.Int.{ints}
use Rattle.std.proofs.lemmas.List.Elements.{All-head, All-tail, All-cons, All-nil, All-map}
use Rattle.std.proofs.lemmas.List.Folds.{map_fixed}
use Rattle.fixed_num.specs.Numbers.{IsValue, distance, quotient, nearest_of}
use Rattle.fixed_num.specs.Relaxation.{relaxed}
use Rattle.fixed_num.proofs.Quotients.{quotient-IsRoundedQuotient, only_quotient}
use Rattle.waveform.specs.declared.sample.Sample.{Sample}
use Rattle.waveform.specs.Between.{IsBetween}
use Rattle.waveform.proofs.Lines.{quotient-part, IsValue-between}
use Rattle.acceleration.specs.Exchanged.{Exchanged}
use Rattle.acceleration.specs.RelaxedWaves.{relaxed_values, relaxed_sample, relaxed_wave, relaxed_waves}
use Rattle.acceleration.specs.Outside.{Location, located_sample, located_wave, located, first_outside}
use Rattle.acceleration.specs.Laws.{IsPart, ReadsAsMany, IsFixedPoint, HasValues, read_beside}
use Rattle.acceleration.proofs.Locations.{values_inside, first_outside-none, first_outside-nil}

no_distance : (a : ℤ) → unsigned_abs (a -ℤ a) ≡ 0
no_distance a = omega (arith, ints)

quotient-one : (a : ℤ) → quotient (pos (10 ^ 6) *ℤ a) (10 ^ 6) ≡ a
quotient-one a =
    let exact : distance (pos (10 ^ 6) *ℤ a) (10 ^ 6) a ≡ 0 =
    ap (λ (n : ℤ). unsigned_abs (n -ℤ (a *ℤ pos (10 ^ 6)))) (*ℤ_comm (pos (10 ^ 6)) a) ∙ no_distance (a *ℤ pos (10 ^ 6)) in
    only_quotient (pos (10 ^ 6) *ℤ a) a (quotient (pos (10 ^ 6) *ℤ a) (10 ^ 6)) (10 ^ 6) (omega arith)
    (record { near = omega (arith, exact); even_midway = λ midway. absurd (omega (arith, exact, midway)) })
    (quotient-IsRoundedQuotient (pos (10 ^ 6) *ℤ a) (10 ^ 6) (omega arith))

pub relaxed-one : (x y : ℤ) → relaxed x y (pos (10 ^ 6)) ≡ y
relaxed-one x y = ap (λ (n : ℤ). x +ℤ n) (quotient-one (y -ℤ x)) ∙ omega (arith, ints)

quotient-zero : quotient (pos 0) (10 ^ 6) ≡ pos 0
unfolding quotient nearest_of
quotient-zero = refl

pub relaxed-same : (x factor : ℤ) → relaxed x x factor ≡ x
relaxed-same x factor =
    let none : x -ℤ x ≡ pos 0 = omega (arith, ints) in
    let still : quotient (factor *ℤ (x -ℤ x)) (10 ^ 6) ≡ pos 0 =
    ap (λ (n : ℤ). quotient (factor *ℤ n) (10 ^ 6)) none ∙ ap (λ (n : ℤ). quotient n (10 ^ 6)) (*ℤ-zero factor) ∙ quotient-zero in
    ap (λ (n : ℤ). x +ℤ n) still ∙ omega (arith, ints)

by_part : (x y : ℤ) (m : ℕ) → m ≤ 10 ^ 6 → IsBetween x y (relaxed x y (pos m))
by_part x y m most =
    rw (*ℤ_comm (pos m) (y -ℤ x)) (
    elim (quotient-part (y -ℤ x) m (10 ^ 6) (omega arith) most) [
      | inl w ↦ inl (omega (arith, ints, w.0), omega (arith, ints, w.1))
      | inr w ↦ inr (omega (arith, ints, w.0), omega (arith, ints, w.1))
    ]
    )

pub relaxed-IsBetween : (x y factor : ℤ) → IsPart factor → IsBetween x y (relaxed x y factor)
relaxed-IsBetween x y (pos m) part = by_part x y m (omega (arith, ints, part.most))
relaxed-IsBetween x y (negsuc m) part = absurd (omega (arith, ints, part.least))

pub relaxed-IsValue : (x y factor : ℤ) → IsPart factor → IsValue x → IsValue y → IsValue (relaxed x y factor)
relaxed-IsValue x y factor part first last = IsValue-between x y (relaxed x y factor) (relaxed-IsBetween x y factor part) first last

-- lists of values
relaxed_values-one : (xs ys : List ℤ) → length xs ≡ length ys → relaxed_values (pos (10 ^ 6)) xs ys ≡ ys
unfolding relaxed_values
relaxed_values-one [] [] same = refl
relaxed_values-one [] (y ∷ ys) same = absurd (omega (arith, same))
relaxed_values-one (x ∷ xs) [] same = absurd (omega (arith, same))
relaxed_values-one (x ∷ xs) (y ∷ ys) same = ap (λ (v : ℤ). v ∷ relaxed_values (pos (10 ^ 6)) xs ys) (relaxed-one x y) ∙ ap (λ (vs : List ℤ). y ∷ vs) (relaxed_values-one xs ys (omega (arith, same)))

relaxed_values-same : (factor : ℤ) (xs : List ℤ) → relaxed_values factor xs xs ≡ xs
unfolding relaxed_values
relaxed_values-same factor [] = refl
relaxed_values-same factor (x ∷ xs) = ap (λ (v : ℤ). v ∷ relaxed_values factor xs xs) (relaxed-same x factor) ∙ ap (λ (vs : List ℤ). x ∷ vs) (relaxed_values-same factor xs)

relaxed_values-All : (factor : ℤ) (xs ys : List ℤ) → IsPart factor → All IsValue xs → All IsValue ys → All IsValue (relaxed_values factor xs ys)
unfolding relaxed_values
relaxed_values-All factor [] ys part first last = All-nil IsValue
relaxed_values-All factor (x ∷ xs) [] part first last = All-nil IsValue
relaxed_values-All factor (x ∷ xs) (y ∷ ys) part first last =
    All-cons IsValue (relaxed x y factor) (relaxed_values factor xs ys)
    (relaxed-IsValue x y factor part (All-head IsValue x xs first) (All-head IsValue y ys last))
    (relaxed_values-All factor xs ys part (All-tail IsValue x xs first) (All-tail IsValue y ys last))

with_values : Sample → List ℤ → Sample
with_values s values = record { time = s.time; field = record { components = s.field.components; values = values } }

pub relaxed_wave-one : (e : Exchanged) → ReadsAsMany e → relaxed_wave (pos (10 ^ 6)) e ≡ e.posted
unfolding with_values
relaxed_wave-one e many =
    map_fixed (relaxed_sample (pos (10 ^ 6)) e) e.posted
    (λ k d inside. let y = get_or e.posted k d in ap (with_values y) (relaxed_values-one (read_beside e y) y.field.values (many k d inside)))

pub relaxed_wave-same : (e : Exchanged) (factor : ℤ) → IsFixedPoint e → relaxed_wave factor e ≡ e.posted
unfolding with_values
relaxed_wave-same e factor fixed =
    map_fixed (relaxed_sample factor e) e.posted
    (λ k d inside. let y = get_or e.posted k d in
    ap (λ (xs : List ℤ). with_values y (relaxed_values factor xs y.field.values)) (fixed k d inside) ∙ ap (with_values y) (relaxed_values-same factor y.field.values))

-- where no part has a value out of range, all of it has none
flat_none : {X : Type 0} (f : X → List (Location × ℤ)) (xs : List X) → All (λ (x : X). first_outside (f x) ≡ None) xs → first_outside (flat_map f xs) ≡ None
flat_none f [] none = first_outside-nil
flat_none {X} f (x ∷ xs) none =
    first_outside-none (f x) (flat_map f xs) (All-head (λ (y : X). first_outside (f y) ≡ None) x xs none)
    ∙ flat_none f xs (All-tail (λ (y : X). first_outside (f y) ≡ None) x xs none)

wave_fits : (factor : ℤ) (place : ℕ) (e : Exchanged) → IsPart factor → HasValues e → first_outside (located_wave place (relaxed_wave factor e)) ≡ None
wave_fits factor place e part values =
    flat_none (located_sample place) (relaxed_wave factor e)
    (All-map (λ (s : Sample). first_outside (located_sample place s) ≡ None) (relaxed_sample factor e) e.posted
    (λ k d inside. let y = get_or e.posted k d in
    values_inside place y.time (relaxed_values factor (read_beside e y) y.field.values)
    (relaxed_values-All factor (read_beside e y) y.field.values part (values.taken k d inside) (values.posted k d inside))))

numbered : (n : ℕ) (waves : List (List Sample)) → All (λ (w : List Sample). (place : ℕ) → first_outside (located_wave place w) ≡ None) waves
    → All (λ (w : ℕ × List Sample). first_outside (located_wave w.0 w.1) ≡ None) (enumerate_from n waves)
numbered n [] none = All-nil (λ (w : ℕ × List Sample). first_outside (located_wave w.0 w.1) ≡ None)
numbered n (w ∷ waves) none =
    All-cons (λ (v : ℕ × List Sample). first_outside (located_wave v.0 v.1) ≡ None) (n, w) (enumerate_from (n + 1) waves)
    (All-head (λ (v : List Sample). (place : ℕ) → first_outside (located_wave place v) ≡ None) w waves none n)
    (numbered (n + 1) waves (All-tail (λ (v : List Sample). (place : ℕ) → first_outside (located_wave place v) ≡ None) w waves none))

-- by a part of the way from Values to Values none is out of range
pub part_fits : (exchanges : List Exchanged) (factor : ℤ) → IsPart factor → All HasValues exchanges → first_outside (located (relaxed_waves factor exchanges)) ≡ None
part_fits exchanges factor part values =
    flat_none (λ (w : ℕ × List Sample). located_wave w.0 w.1) (enumerate_from 0 (relaxed_waves factor exchanges))
    (numbered 0 (relaxed_waves factor exchanges)
    (All-map (λ (w : List Sample). (place : ℕ) → first_outside (located_wave place w) ≡ None) (relaxed_wave factor) exchanges
    (λ k d inside. λ place. wave_fits factor place (get_or exchanges k d) part (values k d inside))))
