-- Waves that are mapped from one mesh to another, sample by sample. From the coupling documentation's mappings; that a sum can be out of range is the project's own.
use Rattle.std.specs.Prelude.{ℕ, ◌+◌, ◌-◌, if◌then◌else◌, List, [], ◌∷◌, map, length, Option, Some, None, Result, Ok, Err, ℤ}
use Rattle.std.specs.List.{range_with_len}
use Rattle.cpl_plan.specs.declared.parts.MapPlan.{MapPlan}
use Rattle.waveform.specs.declared.sample.Sample.{Sample}
use Rattle.waveform.specs.declared.field.Field.{Field}
use Rattle.nn_mapping.specs.Mapping.{mapping_of}
use Rattle.nn_mapping.specs.MappedField.{mapped_field as nearest_field}
use Rattle.edge_projection.specs.declared.edge.Edge.{Edge}
use Rattle.edge_projection.specs.EdgeMapping.{searched, mapping_of as edges_of}
use Rattle.edge_projection.specs.MappedField.{mapped_field as projected_field}
use Rattle.wave_coupling.specs.Posts.{Wave}

-- the points of a mesh
abbrev pub Points : Type 0
Points = List (List ℤ)

-- where a mapped wave is out of range
pub record OutOfRange : Type 0 where
  pub time : ℕ
  pub vertex : ℕ
  pub component : ℕ

-- edges between consecutive vertices
abbrev pub chain : Points → List Edge
chain points = map (λ v. record { a = v; b = v + 1 }) (range_with_len 0 (length points - 1))

-- a field that a mapping of the plan maps from one mesh to another
abbrev pub mapped_by : MapPlan → (from to : Points) → Field → Result Field (ℕ × ℕ)
mapped_by m from to field =
    if m.projection then projected_field (edges_of from to (chain (searched m.conservative from to)) m.conservative) field
    else nearest_field (mapping_of from to m.conservative) field

abbrev pub with_field : (time : ℕ) → Result Field (ℕ × ℕ) → Result Sample OutOfRange
with_field time (Ok field) = Ok (record { time = time; field = field })
with_field time (Err place) = Err (record { time = time; vertex = place.0; component = place.1 })

-- all results, or the first error
abbrev pub before_all : {X E : Type 0} → Result X E → Result (List X) E → Result (List X) E
before_all (Ok x) (Ok xs) = Ok (x ∷ xs)
before_all (Ok x) (Err e) = Err e
before_all (Err e) rest = Err e

abbrev pub all_or_first : {X E : Type 0} → List (Result X E) → Result (List X) E
all_or_first [] = Ok []
all_or_first (result ∷ rest) = before_all result (all_or_first rest)

-- a wave, sample by sample, where there is a mapping
abbrev pub mapped_wave : Option MapPlan → (from to : Points) → Wave → Result Wave OutOfRange
mapped_wave None from to wave = Ok wave
mapped_wave (Some m) from to wave = all_or_first (map (λ sample. with_field sample.time (mapped_by m from to sample.field)) wave)
