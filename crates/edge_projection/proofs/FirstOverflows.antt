-- Where a mapped field is undefined, and where it is not.
use Rattle.std.proofs.Common.{◌≡◌, ℕ, ◌+◌, ◌*◌, ◌/◌, ◌%◌, ◌<◌, Bool, true, false, not, cond, Option, None, Some, Result, Ok, Err, List, ℤ, length, get_or, refl, sym, subst, ap, ◌∙◌, inl, inr, arith}
use Rattle.std.specs.List.{find, position_or_len}
use Rattle.std.specs.Option.{option_map_or}
use Rattle.std.proofs.lemmas.Bool.{cases_lt}
use Rattle.std.proofs.lemmas.List.Folds.{find_at}
use Rattle.std.proofs.lemmas.List.Sums.{passes_at_first, fails_before_first}
use Rattle.std.proofs.lemmas.Nat.{div-add-mod', div_below, mod_below, row_fits}
use Rattle.std.proofs.lemmas.Option.{slice_get-get_or, slice_get_past}
use Rattle.fixed_num.specs.Numbers.{IsValue, is_value}
use Rattle.fixed_num.proofs.ValueTests.{value_from_true, is_value-true}
use Rattle.waveform.specs.declared.field.Field.{Field}
use Rattle.edge_projection.specs.EdgeMapping.{EdgeMapping}
use Rattle.edge_projection.specs.MappedField.{mapped_component, mapped_values, overflow_of, mapped_field}
use Rattle.edge_projection.specs.Places.{places, ComesBefore}
use Rattle.edge_projection.specs.Overflows.{IsFirstOverflow}
use Rattle.edge_projection.proofs.Places.{length-places, get_or-places, place_at, some_columns, mapped-consistent}

record FoundAt (p : ℕ × ℕ → Bool) (xs : List (ℕ × ℕ)) (place : ℕ × ℕ) (n : ℕ) : Type 0 where
  inside : n < length xs
  is : get_or xs n (0, 0) ≡ place
  passes : p place ≡ true
  before : (k : ℕ) → k < n → p (get_or xs k (0, 0)) ≡ false

found_at : (p : ℕ × ℕ → Bool) (xs : List (ℕ × ℕ)) (place : ℕ × ℕ) → find p xs ≡ Some place → FoundAt p xs place (position_or_len p xs)
found_at p xs place found =
    elim (cases_lt (position_or_len p xs) (length xs)) [
      | inl inside ↦
          let whole = find_at p xs in
          let here = slice_get-get_or xs (position_or_len p xs) (0, 0) inside in
          let same : get_or xs (position_or_len p xs) (0, 0) ≡ place = cc in
          record {
            inside = inside;
            is = same;
            passes = subst (λ (q : ℕ × ℕ). p q ≡ true) same (passes_at_first p xs (0, 0) inside);
            before = λ k earlier. fails_before_first p xs k (0, 0) earlier;
          }
      | inr past ↦
          let whole = find_at p xs in
          let none = slice_get_past xs (position_or_len p xs) past in
          absurd (cc)
    ]

undefined_is : (o : Option (ℕ × ℕ)) (field : Field) (place : ℕ × ℕ) → option_map_or {T = ℕ × ℕ} {U = Result Field (ℕ × ℕ)} Err o (Ok field) ≡ Err place → o ≡ Some place
undefined_is None field place e = absurd (cc)
undefined_is (Some other) field place e = cc

summing : (b : Bool) (o : Option (ℕ × ℕ)) (place : ℕ × ℕ) → cond b o None ≡ Some place → o ≡ Some place
summing true o place e = e
summing false o place e = absurd (cc)

passed_value : (sum : ℤ) → not (is_value sum) ≡ false → IsValue sum
passed_value sum e = value_from_true sum (not_false (is_value sum) e)
  where
    not_false : (b : Bool) → not b ≡ false → b ≡ true
    not_false true e = refl
    not_false false e = absurd (cc)

failed_value : (sum : ℤ) → not (is_value sum) ≡ true → ¬ IsValue sum
failed_value sum e = λ value. let both = ap not (is_value-true sum value) in absurd (cc)

-- an earlier place has a lower index
earlier_index : (w d v c components n : ℕ) → d < components → n ≡ v * components + c → ComesBefore w d v c → w * components + d < n
earlier_index w d v c components n column at (inl row) = omega (arith, at, column, row_fits w components v components row (omega arith))
earlier_index w d v c components n column at (inr same) = let rows = ap (λ (r : ℕ). r * components) same.0 in omega (arith, at, rows, same.1)

pub mapped_field-IsFirstOverflow : (m : EdgeMapping) (field : Field) (v c : ℕ) → mapped_field m field ≡ Err (v, c) → IsFirstOverflow m field v c
unfolding overflow_of
mapped_field-IsFirstOverflow m field v c undefined =
    let test : ℕ × ℕ → Bool = λ place. not (is_value (mapped_component m field place)) in
    let found = found_at test (places m.targets field.components) (v, c)
    (summing m.conservative (find test (places m.targets field.components)) (v, c)
    (undefined_is (overflow_of m field) (record { components = field.components; values = mapped_values m field }) (v, c) undefined)) in
    let n = position_or_len test (places m.targets field.components) in
    let size = length-places m.targets field.components in
    let within : n < m.targets * field.components = omega (arith, size, found.inside) in
    let some = some_columns m.targets field.components n within in
    let place = sym (place_at m.targets field.components n (0, 0) within) ∙ found.is in
    let row : n / field.components ≡ v = ap (λ (p : ℕ × ℕ). p.0) place in
    let column : n % field.components ≡ c = ap (λ (p : ℕ × ℕ). p.1) place in
    let row_inside = div_below n field.components m.targets some within in
    let column_inside = mod_below n field.components some in
    let at : n ≡ v * field.components + c =
    sym (div-add-mod' n field.components) ∙ ap (λ (r : ℕ). r * field.components + n % field.components) row ∙ ap (λ (k : ℕ). v * field.components + k) column in
    record {
      vertex = rw row at row_inside;
      component = rw column at column_inside;
      no_value = failed_value (mapped_component m field (v, c)) found.passes;
      first = λ w d vertex component before.
          passed_value (mapped_component m field (w, d))
          (subst (λ (q : ℕ × ℕ). not (is_value (mapped_component m field q)) ≡ false) (get_or-places m.targets field.components w d (0, 0) vertex component)
          (found.before (w * field.components + d) (earlier_index w d v c field.components n component at before)));
    }

none_found : (p : ℕ × ℕ → Bool) (xs : List (ℕ × ℕ)) → find p xs ≡ None → (k : ℕ) → k < length xs → p (get_or xs k (0, 0)) ≡ false
none_found p xs none k inside =
    elim (cases_lt (position_or_len p xs) (length xs)) [
      | inl found ↦
          let whole = find_at p xs in
          let here = slice_get-get_or xs (position_or_len p xs) (0, 0) found in
          absurd (cc)
      | inr past ↦ fails_before_first p xs k (0, 0) (omega (arith, past, inside))
    ]

defined_none : (o : Option (ℕ × ℕ)) (field out : Field) → option_map_or {T = ℕ × ℕ} {U = Result Field (ℕ × ℕ)} Err o (Ok field) ≡ Ok out → o ≡ None
defined_none None field out e = refl
defined_none (Some place) field out e = absurd (cc)

pub mapped_field-all_values : (m : EdgeMapping) (field out : Field) (v c : ℕ) → m.conservative ≡ true → mapped_field m field ≡ Ok out → v < m.targets → c < field.components
    → IsValue (mapped_component m field (v, c))
unfolding overflow_of
mapped_field-all_values m field out v c kind defined within column =
    let test : ℕ × ℕ → Bool = λ place. not (is_value (mapped_component m field place)) in
    let none : find test (places m.targets field.components) ≡ None =
    sym (ap (λ (b : Bool). cond b (find test (places m.targets field.components)) None) kind)
    ∙ defined_none (overflow_of m field) (record { components = field.components; values = mapped_values m field }) out defined in
    let inside = row_fits v field.components m.targets field.components within (omega arith) in
    passed_value (mapped_component m field (v, c))
    (subst (λ (q : ℕ × ℕ). not (is_value (mapped_component m field q)) ≡ false) (get_or-places m.targets field.components v c (0, 0) within column)
    (none_found test (places m.targets field.components) none (v * field.components + c) (omega (arith, inside, column, length-places m.targets field.components))))

-- a consistent mapping looks for no overflow
pub mapped_field-consistent : (m : EdgeMapping) (field : Field) → m.conservative ≡ false → mapped_field m field ≡ Ok (record { components = field.components; values = mapped_values m field })
mapped_field-consistent m field kind = mapped-consistent m field (mapped_values m field) field.components kind refl refl
