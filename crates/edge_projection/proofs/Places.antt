-- The places of a field by their index, and the mapped field from the values at them.
use Rattle.std.proofs.Common.{◌≡◌, ℕ, zero, suc, ◌+◌, ◌-◌, ◌*◌, ◌/◌, ◌%◌, ◌<◌, Bool, true, false, not, cond, Option, None, Some, Result, Ok, Err, List, [], ◌++◌, ℤ, pos, All, length, get_or, map, sym, ap, ◌∙◌, inl, inr, arith}
use Rattle.std.specs.List.{range_with_len, flat_map, find, slice_get, AllWithin}
use Rattle.std.specs.Option.{option_map_or}
use Rattle.std.proofs.lemmas.Bool.{cases_lt}
use Rattle.std.proofs.lemmas.List.{flat_map_more, length-append, length-map, get_or-map, get_or-append_right, get_or_append_left, get_or_default, same_lists}
use Rattle.std.proofs.lemmas.List.Folds.{find_at}
use Rattle.std.proofs.lemmas.List.FromFn.{length-map-range_with_len, get_or-map-range_with_len}
use Rattle.std.proofs.lemmas.List.Sums.{position_or_len_is}
use Rattle.std.proofs.lemmas.Nat.{div-add-mod', div_below, mod_below, row_fits}
use Rattle.std.proofs.lemmas.Option.{slice_get-get_or, slice_get_past}
use Rattle.fixed_num.specs.Numbers.{IsValue, is_value}
use Rattle.fixed_num.proofs.ValueTests.{is_value-true, is_value-false}
use Rattle.waveform.specs.declared.field.Field.{Field}
use Rattle.edge_projection.specs.Places.{places}
use Rattle.edge_projection.specs.EdgeMapping.{EdgeMapping}
use Rattle.edge_projection.specs.MappedField.{mapped_component, mapped_values, overflow_of, mapped_field, total, given_by, between, foot_number, component_of}
use Rattle.edge_projection.proofs.Totals.{range_more}

places_more : (vertices components : ℕ) → places (vertices + 1) components ≡ places vertices components ++ map (λ (c : ℕ). (vertices, c)) (range_with_len 0 components)
places_more vertices components =
    let row : ℕ → List (ℕ × ℕ) = λ v. map (λ (c : ℕ). (v, c)) (range_with_len 0 components) in
    ap (flat_map row) (range_more vertices) ∙ sym (flat_map_more row [] (range_with_len 0 vertices) vertices)

pub length-places : (vertices components : ℕ) → length (places vertices components) ≡ vertices * components
length-places zero components = omega arith
length-places (suc n) components =
    let one : suc n ≡ n + 1 = omega arith in
    let more = ap length (ap (λ (k : ℕ). places k components) one ∙ places_more n components) in
    let both = length-append (places n components) (map (λ (c : ℕ). (n, c)) (range_with_len 0 components)) in
    let row = length-map-range_with_len {X = ℕ × ℕ} (λ (c : ℕ). (n, c)) 0 components in
    omega (arith, more, both, row, length-places n components)

pub get_or-places : (vertices components v c : ℕ) (d : ℕ × ℕ) → v < vertices → c < components → get_or (places vertices components) (v * components + c) d ≡ (v, c)
get_or-places zero components v c d within column = absurd (omega arith)
get_or-places (suc n) components v c d within column =
    let one : suc n ≡ n + 1 = omega arith in
    let row : List (ℕ × ℕ) = map (λ (c : ℕ). (n, c)) (range_with_len 0 components) in
    let size = length-places n components in
    ap (λ (places : List (ℕ × ℕ)). get_or places (v * components + c) d) (ap (λ (k : ℕ). places k components) one ∙ places_more n components)
    ∙ elim (cases_lt v n) [
      | inl before ↦
          get_or_append_left (places n components) row d (v * components + c) (omega (arith, size, row_fits v components n components before (omega arith), column))
          ∙ get_or-places n components v c d before column
      | inr here ↦
          let same : v ≡ n = omega arith in
          rw same
          (get_or-append_right (places n components) row (n * components) (n * components + c) d size (omega arith)
          ∙ get_or-map-range_with_len (λ (c : ℕ). (n, c)) 0 components (n * components + c - n * components) c d (omega (arith, column)) (omega arith))
    ]

pub some_columns : (vertices components i : ℕ) → i < vertices * components → 0 < components
some_columns vertices zero i within = absurd (omega (arith, within))
some_columns vertices (suc n) i within = omega arith

-- the place at an index
pub place_at : (vertices components i : ℕ) (d : ℕ × ℕ) → i < vertices * components → get_or (places vertices components) i d ≡ (i / components, i % components)
place_at vertices components i d within =
    let some = some_columns vertices components i within in
    ap (λ (k : ℕ). get_or (places vertices components) k d) (sym (div-add-mod' i components))
    ∙ get_or-places vertices components (i / components) (i % components) d (div_below i components vertices some within) (mod_below i components some)

-- values that are at their places what is mapped there
pub mapped_values_are : (m : EdgeMapping) (field : Field) (values : List ℤ) → length values ≡ m.targets * field.components
    → ((v c : ℕ) → v < m.targets → c < field.components → get_or values (v * field.components + c) (pos 0) ≡ mapped_component m field (v, c))
    → values ≡ mapped_values m field
unfolding mapped_values
mapped_values_are m field values size each =
    let all = length-places m.targets field.components in
    let mapped = length-map (places m.targets field.components) (mapped_component m field) in
    same_lists values (map (mapped_component m field) (places m.targets field.components)) (omega (arith, size, all, mapped))
    (λ k d inside.
    let within : k < m.targets * field.components = omega (arith, size, inside) in
    let some = some_columns m.targets field.components k within in
    get_or_default values k d (pos 0) inside
    ∙ ap (λ (i : ℕ). get_or values i (pos 0)) (sym (div-add-mod' k field.components))
    ∙ each (k / field.components) (k % field.components) (div_below k field.components m.targets some within) (mod_below k field.components some)
    ∙ ap (mapped_component m field) (sym (place_at m.targets field.components k (0, 0) within))
    ∙ sym (get_or-map (mapped_component m field) (places m.targets field.components) k (0, 0) d (omega (arith, all, within))))

find_first : (p : ℕ × ℕ → Bool) (xs : List (ℕ × ℕ)) (i : ℕ) (d : ℕ × ℕ) → i < length xs
    → ((k : ℕ) → k < i → p (get_or xs k d) ≡ false) → p (get_or xs i d) ≡ true → find p xs ≡ Some (get_or xs i d)
find_first p xs i d inside before here =
    find_at p xs ∙ ap (λ (n : ℕ). slice_get xs n) (position_or_len_is p xs i d (omega arith) before (λ _. here))
    ∙ slice_get-get_or xs i d inside

find_none : (p : ℕ × ℕ → Bool) (xs : List (ℕ × ℕ)) (d : ℕ × ℕ) → ((k : ℕ) → k < length xs → p (get_or xs k d) ≡ false) → find p xs ≡ None
find_none p xs d fails =
    find_at p xs ∙ ap (λ (n : ℕ). slice_get xs n) (position_or_len_is p xs (length xs) d (omega arith) fails (λ l. absurd (omega arith)))
    ∙ slice_get_past xs (length xs) (omega arith)

out_at : (f : ℕ × ℕ → ℤ) (places : List (ℕ × ℕ)) (sums : List ℤ) (k : ℕ) → sums ≡ map f places → k < length sums → f (get_or places k (0, 0)) ≡ get_or sums k (pos 0)
out_at f places sums k is within =
    let size = ap length is ∙ length-map places f in
    sym (get_or-map f places k (0, 0) (pos 0) (omega (arith, size, within))) ∙ ap (λ (xs : List ℤ). get_or xs k (pos 0)) (sym is)

passes : (sum : ℤ) → IsValue sum → not (is_value sum) ≡ false
passes sum h = ap not (is_value-true sum h)

fails : (sum : ℤ) → ¬ IsValue sum → not (is_value sum) ≡ true
fails sum h = ap not (is_value-false sum h)

-- the overflow that is told, from the sums
pub mapped-undefined : (m : EdgeMapping) (field : Field) (sums : List ℤ) (i : ℕ) → m.conservative ≡ true → sums ≡ mapped_values m field → i < length sums
    → ¬ IsValue (get_or sums i (pos 0)) → AllWithin IsValue sums 0 i → mapped_field m field ≡ Err (i / field.components, i % field.components)
unfolding mapped_values overflow_of
mapped-undefined m field sums i kind is within out before =
    let f = mapped_component m field in
    let all = places m.targets field.components in
    let test : ℕ × ℕ → Bool = λ place. not (is_value (mapped_component m field place)) in
    let size : length sums ≡ length (places m.targets field.components) = ap length is ∙ length-map (places m.targets field.components) (mapped_component m field) in
    let found = find_first test (places m.targets field.components) i (0, 0) (omega (arith, size, within))
    (λ k earlier. ap (λ (sum : ℤ). not (is_value sum)) (out_at (mapped_component m field) (places m.targets field.components) sums k is (omega (arith, within, earlier)))
    ∙ passes (get_or sums k (pos 0)) (before k (pos 0) (omega arith) earlier))
    (ap (λ (sum : ℤ). not (is_value sum)) (out_at (mapped_component m field) (places m.targets field.components) sums i is within)
    ∙ fails (get_or sums i (pos 0)) out) in
    let place = place_at m.targets field.components i (0, 0) (omega (arith, size, within, length-places m.targets field.components)) in
    ap (λ (b : Bool). option_map_or Err (cond b (find test (places m.targets field.components)) None) (Ok (record { components = field.components; values = mapped_values m field }))) kind
    ∙ ap (λ (o : Option (ℕ × ℕ)). option_map_or Err o (Ok (record { components = field.components; values = mapped_values m field }))) (found ∙ ap (λ (p : ℕ × ℕ). Some p) place)

abbrev field_with : ℕ → List ℤ → Result Field (ℕ × ℕ)
field_with components values = Ok (record { components = components; values = values })

-- the field that is written, from the sums
pub mapped-defined : (m : EdgeMapping) (field : Field) (values : List ℤ) (components : ℕ) → m.conservative ≡ true → values ≡ mapped_values m field → All IsValue values → components ≡ field.components
    → mapped_field m field ≡ Ok (record { components = components; values = values })
unfolding mapped_values overflow_of
mapped-defined m field values components kind is in_range same =
    let test : ℕ × ℕ → Bool = λ place. not (is_value (mapped_component m field place)) in
    let size : length values ≡ length (places m.targets field.components) = ap length is ∙ length-map (places m.targets field.components) (mapped_component m field) in
    let none = find_none test (places m.targets field.components) (0, 0)
    (λ k within. ap (λ (sum : ℤ). not (is_value sum)) (out_at (mapped_component m field) (places m.targets field.components) values k is (omega (arith, size, within)))
    ∙ passes (get_or values k (pos 0)) (in_range k (pos 0) (omega (arith, size, within)))) in
    ap (λ (b : Bool). option_map_or Err (cond b (find test (places m.targets field.components)) None) (field_with field.components (mapped_values m field))) kind
    ∙ ap (λ (o : Option (ℕ × ℕ)). option_map_or Err o (field_with field.components (mapped_values m field))) none
    ∙ ap (field_with field.components) (sym is)
    ∙ ap (λ (n : ℕ). field_with n values) (sym same)

-- the field that is copied
pub mapped-consistent : (m : EdgeMapping) (field : Field) (values : List ℤ) (components : ℕ) → m.conservative ≡ false → values ≡ mapped_values m field → components ≡ field.components
    → mapped_field m field ≡ Ok (record { components = components; values = values })
unfolding overflow_of
mapped-consistent m field values components kind is same =
    ap (λ (b : Bool). option_map_or Err (cond b (find (λ place. not (is_value (mapped_component m field place))) (places m.targets field.components)) None) (field_with field.components (mapped_values m field))) kind
    ∙ ap (field_with field.components) (sym is)
    ∙ ap (λ (n : ℕ). field_with n values) (sym same)

-- what is mapped to a place, by the kind of the mapping
pub component-summed : (m : EdgeMapping) (field : Field) (v c : ℕ) → m.conservative ≡ true → mapped_component m field (v, c) ≡ total (given_by m.feet field c v) m.sources
component-summed m field v c kind =
    ap (λ (b : Bool). cond b (total (given_by m.feet field c v) m.sources) (between (foot_number m.feet v).weight (component_of field (foot_number m.feet v).a c) (component_of field (foot_number m.feet v).b c))) kind

pub component-between : (m : EdgeMapping) (field : Field) (v c : ℕ) → m.conservative ≡ false
    → mapped_component m field (v, c) ≡ between (foot_number m.feet v).weight (component_of field (foot_number m.feet v).a c) (component_of field (foot_number m.feet v).b c)
component-between m field v c kind =
    ap (λ (b : Bool). cond b (total (given_by m.feet field c v) m.sources) (between (foot_number m.feet v).weight (component_of field (foot_number m.feet v).a c) (component_of field (foot_number m.feet v).b c))) kind
