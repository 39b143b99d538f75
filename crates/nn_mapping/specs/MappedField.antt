-- A field that is mapped from one mesh to another. From the coupling documentation's consistent and conservative mappings; that a sum can be no Value is the project's own.
use Rattle.std.specs.Prelude.{◌≡◌, ℕ, ◌+◌, ◌*◌, ◌==◌, not, Option, None, Result, Ok, Err, List, ℤ, pos, ◌+ℤ◌, length, map, filter, find, fold, slice_index, slice_index_or, if◌then◌else◌}
use Rattle.std.specs.List.{range_with_len, flat_map}
use Rattle.std.specs.Option.{option_map_or}
use Rattle.fixed_num.specs.Numbers.{is_value}
use Rattle.waveform.specs.declared.field.Field.{Field}
use Rattle.nn_mapping.specs.Mapping.{Mapping}

-- a field has a value for each component at each of so many vertices
abbrev pub IsFieldOn : Field → ℕ → Type 0
IsFieldOn field vertices = length field.values ≡ vertices * field.components

-- component c of vertex v of a field
abbrev pub component_of : Field → (v c : ℕ) → ℤ
component_of field v c = slice_index_or field.values (v * field.components + c) (pos 0)

-- the sources whose nearest target is v
abbrev pub sources_of : (nearest : List ℕ) (v : ℕ) → List ℕ
sources_of nearest v = filter (λ s. slice_index nearest s == v) (range_with_len 0 (length nearest))

-- the sum of component c over these vertices of a field
abbrev pub sum_over : Field → (c : ℕ) → List ℕ → ℤ
sum_over field c vertices = fold (λ (so_far : ℤ) (s : ℕ). so_far +ℤ component_of field s c) (pos 0) vertices

-- the sum of component c over all vertices
abbrev pub total_of : Field → (vertices c : ℕ) → ℤ
total_of field vertices c = sum_over field c (range_with_len 0 vertices)

-- component c of target v: conservative, the whole sum over its sources; consistent, that of its nearest source
abbrev pub mapped_component : Mapping → Field → ℕ × ℕ → ℤ
mapped_component m field (v, c) =
    if m.conservative then sum_over field c (sources_of m.nearest v) else component_of field (slice_index m.nearest v) c

-- the places of a field, each a vertex and a component, in the order of its values
abbrev pub places : (vertices components : ℕ) → List (ℕ × ℕ)
places vertices components = flat_map (λ v. map (λ c. (v, c)) (range_with_len 0 components)) (range_with_len 0 vertices)

-- the first place whose sum is no Value, if there is one; a consistent mapping sums nothing
unfoldable pub overflow_of : Mapping → Field → Option (ℕ × ℕ)
overflow_of m field =
    if m.conservative
    then find (λ place. not (is_value (mapped_component m field place))) (places m.targets field.components)
    else None

-- all components of all targets
unfoldable pub mapped_values : Mapping → Field → List ℤ
mapped_values m field = map (mapped_component m field) (places m.targets field.components)

-- the mapped field, or the place where it is undefined
abbrev pub mapped_field : Mapping → Field → Result Field (ℕ × ℕ)
mapped_field m field =
    option_map_or Err (overflow_of m field) (Ok (record { components = field.components; values = mapped_values m field }))
