-- A field that is mapped from one mesh to another by feet on edges. From the coupling documentation's consistent and conservative nearest projection; the rounding and that a sum can be no Value are the project's own.
use Rattle.std.specs.Prelude.{◌≡◌, ℕ, ◌+◌, ◌*◌, ◌^◌, ◌==◌, not, Bool, true, false, Option, None, Result, Ok, Err, List, ℤ, pos, ◌+ℤ◌, ◌-ℤ◌, ◌*ℤ◌, length, map, find, fold, slice_index_or, if◌then◌else◌}
use Rattle.std.specs.List.{range_with_len}
use Rattle.std.specs.Option.{option_map_or}
use Rattle.fixed_num.specs.Numbers.{is_value, quotient}
use Rattle.waveform.specs.declared.field.Field.{Field}
use Rattle.edge_projection.specs.declared.edge.Foot.{Foot}
use Rattle.edge_projection.specs.Places.{places}
use Rattle.edge_projection.specs.EdgeMapping.{EdgeMapping}

-- a field has a value for each component at each of so many vertices
abbrev pub IsFieldOn : Field → ℕ → Type 0
IsFieldOn field vertices = length field.values ≡ vertices * field.components

-- component c of vertex v of a field
abbrev pub component_of : Field → (v c : ℕ) → ℤ
component_of field v c = slice_index_or field.values (v * field.components + c) (pos 0)

-- the foot of vertex v
abbrev pub foot_number : List Foot → ℕ → Foot
foot_number feet v = slice_index_or feet v (record { number = 0; a = 0; b = 0; weight = 0; square = 0 })

-- the value m millionths of the way from x to y, rounded
unfoldable pub between : (m : ℕ) → (x y : ℤ) → ℤ
between m x y = x +ℤ quotient ((y -ℤ x) *ℤ pos m) (10 ^ 6)

-- what of a value goes to the end b of its foot: m millionths, rounded
unfoldable pub share_of : (m : ℕ) → ℤ → ℤ
share_of m x = quotient (x *ℤ pos m) (10 ^ 6)

-- what goes to an end: to b the share, to a the rest
abbrev pub part_of : (rest : Bool) (m : ℕ) → ℤ → ℤ
part_of rest m x = if rest then x -ℤ share_of m x else share_of m x

-- what goes to vertex v from an end at vertex w
abbrev pub given_at : (w v : ℕ) → ℤ → ℤ
given_at w v x = if w == v then x else pos 0

-- what source u gives to component c of vertex v: the rest where v is the end a of its foot, and the share where it is b
abbrev pub given_by : List Foot → Field → (c v u : ℕ) → ℤ
given_by feet field c v u =
    let foot = foot_number feet u in
    given_at foot.a v (part_of true foot.weight (component_of field u c))
    +ℤ given_at foot.b v (part_of false foot.weight (component_of field u c))

-- the sum of f over the first n numbers
unfoldable pub total : (ℕ → ℤ) → ℕ → ℤ
total f n = fold (λ (so_far : ℤ) (v : ℕ). so_far +ℤ f v) (pos 0) (range_with_len 0 n)

-- the sum of component c over all vertices
abbrev pub total_of : Field → (vertices c : ℕ) → ℤ
total_of field vertices c = total (λ v. component_of field v c) vertices

-- component c of target v: conservative, all that the sources give; consistent, between the ends of its foot
abbrev pub mapped_component : EdgeMapping → Field → ℕ × ℕ → ℤ
mapped_component m field (v, c) =
    if m.conservative
    then total (given_by m.feet field c v) m.sources
    else between (foot_number m.feet v).weight (component_of field (foot_number m.feet v).a c) (component_of field (foot_number m.feet v).b c)

-- the first place whose sum is no Value, if there is one; a consistent mapping sums nothing
unfoldable pub overflow_of : EdgeMapping → Field → Option (ℕ × ℕ)
overflow_of m field =
    if m.conservative
    then find (λ place. not (is_value (mapped_component m field place))) (places m.targets field.components)
    else None

-- all components of all targets
unfoldable pub mapped_values : EdgeMapping → Field → List ℤ
mapped_values m field = map (mapped_component m field) (places m.targets field.components)

-- the mapped field, or the place where it is undefined
abbrev pub mapped_field : EdgeMapping → Field → Result Field (ℕ × ℕ)
mapped_field m field =
    option_map_or Err (overflow_of m field) (Ok (record { components = field.components; values = mapped_values m field }))
