-- A mapped wave fits as the wave does, with as many values as the mesh has that it is mapped to.
use Rattle.std.proofs.Common.{◌≡◌, ◌⊎◌, inl, inr, ℕ, zero, suc, ◌+◌, ◌-◌, ◌*◌, ◌/◌, ◌%◌, ◌^◌, ◌<◌, ◌≤◌, Bool, true, false, not, if◌then◌else◌, List, [], ◌∷◌, length, get_or, map, find, slice_index_or, Option, Some, None, Result, Ok, Err, All, Contains, ℤ, pos, refl, ap, sym, subst, ◌∙◌, arith, mul_comm, mod-lt}
use Rattle.std.specs.Prelude.{slice_index}
use Rattle.std.specs.Option.{option_map_or}
use Rattle.std.specs.List.{list_all, position_or_len}
use Rattle.std.proofs.lemmas.Bool.{cases_Bool, cases_lt, not-false}
use Rattle.std.proofs.lemmas.List.{length-map, get_or_past}
use Rattle.std.proofs.lemmas.List.Elements.{All-map, Contains-get_or}
use Rattle.fixed_num.specs.Numbers.{IsValue, is_value}
use Rattle.fixed_num.proofs.ValueTests.{value_from_true}
use Rattle.cpl_plan.specs.declared.parts.MapPlan.{MapPlan}
use Rattle.waveform.specs.declared.field.Field.{Field}
use Rattle.nn_mapping.specs.Mapping.{Mapping, mapping_of}
use Rattle.nn_mapping.specs.MappedField.{places, mapped_component, overflow_of, mapped_values, mapped_field}
use Rattle.nn_mapping.proofs.Places.{length-places}
use Rattle.edge_projection.specs.declared.edge.Edge.{Edge}
use Rattle.edge_projection.specs.Places.{places as edge_places}
use Rattle.edge_projection.specs.NearestFoot.{nearest_foot, first_least, square_at, candidate_count, weight_count}
use Rattle.edge_projection.specs.EdgeMapping.{EdgeMapping, searched, projected, mapping_of as edges_of}
use Rattle.edge_projection.specs.MappedField.{foot_number, mapped_component as edge_component, overflow_of as edge_overflow, mapped_values as edge_values, mapped_field as edge_field, component_of as edge_component_of}
use Rattle.edge_projection.proofs.Places.{length-places as length-edge_places, place_at as edge_place_at}
use Rattle.edge_projection.proofs.RoundedParts.{between-IsValue}
use Rattle.wave_coupling.specs.Mapped.{Points, chain, mapped_by}
use Rattle.wave_laws.specs.Fitting.{IsFieldOf}
use Rattle.wave_laws.proofs.ReadValues.{not_found}

value_or_zero : (values : List ℤ) (i : ℕ) → All IsValue values → IsValue (get_or values i (pos 0))
value_or_zero values i all = elim (cases_lt i (length values)) [
  | inl inside ↦ all i (pos 0) inside
  | inr past ↦ subst (λ (v : ℤ). IsValue v) (sym (get_or_past values i (pos 0) past)) (omega arith)
]

-- where no place is out of range each is a Value
none_outside : {P : Type 0} (component : P → ℤ) (all : List P) → find (λ (place : P). not (is_value (component place))) all ≡ None → All (λ (place : P). IsValue (component place)) all
none_outside component all none = λ k d inside.
    value_from_true (component (get_or all k d))
    (not-false (is_value (component (get_or all k d))) (not_found (λ place. not (is_value (component place))) all (get_or all k d) none (Contains-get_or all k d inside)))

defined : (overflow : Option (ℕ × ℕ)) (made out : Field) → option_map_or {T = ℕ × ℕ} {U = Result Field (ℕ × ℕ)} Err overflow (Ok made) ≡ Ok out → (overflow ≡ None) × (out ≡ made)
defined None made out e = (refl, cc)
defined (Some place) made out e = absurd (cc)

-- ---- by the nearest vertex
nearest_values : (m : Mapping) (field : Field) → All IsValue field.values → overflow_of m field ≡ None → All IsValue (mapped_values m field)
unfolding mapped_values overflow_of
nearest_values m field all none =
    All-map IsValue (mapped_component m field) (places m.targets field.components) (by (cases_Bool m.conservative))
  where
    by : (m.conservative ≡ true) ⊎ (m.conservative ≡ false) → All (λ (place : ℕ × ℕ). IsValue (mapped_component m field place)) (places m.targets field.components)
    by (inl kind) =
        none_outside (mapped_component m field) (places m.targets field.components)
        (sym (ap (λ (b : Bool). if b then find (λ place. not (is_value (mapped_component m field place))) (places m.targets field.components) else None) kind) ∙ none)
    by (inr kind) = λ k d inside.
        let at : ℕ × ℕ = get_or (places m.targets field.components) k d in
        copied (get_or (places m.targets field.components) k d).0 (get_or (places m.targets field.components) k d).1
      where
        copied : (v c : ℕ) → IsValue (mapped_component m field (v, c))
        copied v c = rw kind (value_or_zero field.values (slice_index m.nearest v * field.components + c) all)

nearest_count : (m : Mapping) (field : Field) → length (mapped_values m field) ≡ m.targets * field.components
unfolding mapped_values
nearest_count m field = length-map (places m.targets field.components) (mapped_component m field) ∙ length-places m.targets field.components

-- ---- by feet on edges
small_weight : (numbers weights : ℕ) (square : ℕ → ℕ → ℕ) → 0 < weights → (first_least numbers weights square).1 < weights
unfolding first_least
small_weight numbers weights square some =
    let tried = edge_places numbers weights in
    by (position_or_len (λ (t : ℕ × ℕ). list_all (λ (u : ℕ × ℕ). Rattle.std.proofs.Common.nat_le (square t.0 t.1) (square u.0 u.1)) (edge_places numbers weights)) (edge_places numbers weights))
  where
    by : (i : ℕ) → (slice_index_or (edge_places numbers weights) i (0, 0)).1 < weights
    by i = elim (cases_lt i (length (edge_places numbers weights))) [
      | inl inside ↦
          subst (λ (n : ℕ). n < weights)
          (sym (ap (λ (p : ℕ × ℕ). p.1) (edge_place_at numbers weights i (0, 0) (omega (arith, inside, length-edge_places numbers weights))))) (mod-lt i some)
      | inr past ↦ subst (λ (p : ℕ × ℕ). p.1 < weights) (sym (get_or_past (edge_places numbers weights) i (0, 0) past)) some
    ]

foot_weight : (mesh : List (List ℤ)) (edges : List Edge) (point : List ℤ) → (nearest_foot mesh edges point).weight ≤ 10 ^ 6
unfolding nearest_foot
foot_weight mesh edges point =
    let small = small_weight (candidate_count mesh edges) weight_count (square_at mesh edges point) (omega arith) in omega (arith, small)

number_weight : (mesh : List (List ℤ)) (edges : List Edge) (points : List (List ℤ)) (v : ℕ) → (foot_number (map (nearest_foot mesh edges) points) v).weight ≤ 10 ^ 6
number_weight mesh edges [] v = omega arith
number_weight mesh edges (p ∷ points) zero = foot_weight mesh edges p
number_weight mesh edges (p ∷ points) (suc v) = number_weight mesh edges points v

edge_values_are : (m : EdgeMapping) (field : Field) → ((v : ℕ) → (foot_number m.feet v).weight ≤ 10 ^ 6) → All IsValue field.values → edge_overflow m field ≡ None → All IsValue (edge_values m field)
unfolding edge_values edge_overflow
edge_values_are m field weights all none =
    All-map IsValue (edge_component m field) (edge_places m.targets field.components) (by (cases_Bool m.conservative))
  where
    by : (m.conservative ≡ true) ⊎ (m.conservative ≡ false) → All (λ (place : ℕ × ℕ). IsValue (edge_component m field place)) (edge_places m.targets field.components)
    by (inl kind) =
        none_outside (edge_component m field) (edge_places m.targets field.components)
        (sym (ap (λ (b : Bool). if b then find (λ place. not (is_value (edge_component m field place))) (edge_places m.targets field.components) else None) kind) ∙ none)
    by (inr kind) = λ k d inside. bent (get_or (edge_places m.targets field.components) k d).0 (get_or (edge_places m.targets field.components) k d).1
      where
        bent : (v c : ℕ) → IsValue (edge_component m field (v, c))
        bent v c = rw kind
            (between-IsValue (foot_number m.feet v).weight (edge_component_of field (foot_number m.feet v).a c) (edge_component_of field (foot_number m.feet v).b c) (weights v)
            (value_or_zero field.values ((foot_number m.feet v).a * field.components + c) all) (value_or_zero field.values ((foot_number m.feet v).b * field.components + c) all))

edge_count : (m : EdgeMapping) (field : Field) → length (edge_values m field) ≡ m.targets * field.components
unfolding edge_values
edge_count m field = length-map (edge_places m.targets field.components) (edge_component m field) ∙ length-edge_places m.targets field.components

-- a mapped field
pub field_mapped : (m : MapPlan) (from to : Points) (components count : ℕ) (field out : Field) → IsFieldOf components count field → mapped_by m from to field ≡ Ok out
    → IsFieldOf components (components * length to) out
field_mapped m from to components count field out is made = by (cases_Bool m.projection) made
  where
    sized : (values : List ℤ) → length values ≡ length to * field.components → length values ≡ components * length to
    sized values many = many ∙ ap (λ (n : ℕ). length to * n) is.at_vertex ∙ mul_comm (length to) components

    by : (m.projection ≡ true) ⊎ (m.projection ≡ false) → mapped_by m from to field ≡ Ok out → IsFieldOf components (components * length to) out
    by (inl kind) e =
        let map : EdgeMapping = edges_of from to (chain (searched m.conservative from to)) m.conservative in
        let own = defined (edge_overflow (edges_of from to (chain (searched m.conservative from to)) m.conservative) field)
        (record { components = field.components; values = edge_values (edges_of from to (chain (searched m.conservative from to)) m.conservative) field }) out
        (sym (ap (λ (b : Bool). if b then edge_field (edges_of from to (chain (searched m.conservative from to)) m.conservative) field
        else mapped_field (mapping_of from to m.conservative) field) kind) ∙ e) in
        subst (λ (f : Field). IsFieldOf components (components * length to) f) (sym own.1)
        (record {
          at_vertex = is.at_vertex;
          in_all = sized (edge_values (edges_of from to (chain (searched m.conservative from to)) m.conservative) field) (edge_count (edges_of from to (chain (searched m.conservative from to)) m.conservative) field);
          values = edge_values_are (edges_of from to (chain (searched m.conservative from to)) m.conservative) field
              (λ v. number_weight (searched m.conservative from to) (chain (searched m.conservative from to)) (projected m.conservative from to) v) is.values own.0;
        })
    by (inr kind) e =
        let own = defined (overflow_of (mapping_of from to m.conservative) field)
        (record { components = field.components; values = mapped_values (mapping_of from to m.conservative) field }) out
        (sym (ap (λ (b : Bool). if b then edge_field (edges_of from to (chain (searched m.conservative from to)) m.conservative) field
        else mapped_field (mapping_of from to m.conservative) field) kind) ∙ e) in
        subst (λ (f : Field). IsFieldOf components (components * length to) f) (sym own.1)
        (record {
          at_vertex = is.at_vertex;
          in_all = sized (mapped_values (mapping_of from to m.conservative) field) (nearest_count (mapping_of from to m.conservative) field);
          values = nearest_values (mapping_of from to m.conservative) field is.values own.0;
        })
