-- What a mapping that was made for two meshes makes of fields and waves. From the coupling documentation's mappings; the table is the project's own.
use Rattle.std.specs.Prelude.{ℕ, Bool, map, Result}
use Rattle.waveform.specs.declared.field.Field.{Field}
use Rattle.waveform.specs.declared.sample.Sample.{Sample}
use Rattle.nn_mapping.specs.MappedField.{mapped_field as nearest_field}
use Rattle.edge_projection.specs.EdgeMapping.{EdgeMapping, searched, mapping_of as edges_of}
use Rattle.edge_projection.specs.MappedField.{mapped_field as projected_field}
use Rattle.wave_coupling.specs.Posts.{Wave}
use Rattle.wave_coupling.specs.Mapped.{Points, OutOfRange, chain, with_field, all_or_first}
use Rattle.wave_maps.specs.declared.wave_map.WaveMap.{WaveMap}
use Rattle.wave_maps.specs.declared.wave_map.WaveMap.TheVariants.{Nearest, Edges}

-- how many vertices the mesh has that is mapped from, and the one that is mapped to
abbrev pub sources_of : WaveMap → ℕ
sources_of (Nearest m) = m.sources
sources_of (Edges m) = m.sources

abbrev pub targets_of : WaveMap → ℕ
targets_of (Nearest m) = m.targets
targets_of (Edges m) = m.targets

-- the mapping onto the edges between consecutive vertices
abbrev pub edges_between : (from to : Points) → (conservative : Bool) → EdgeMapping
edges_between from to conservative = edges_of from to (chain (searched conservative from to)) conservative

-- the mapped field, or the place where it is undefined
abbrev pub mapped_with : WaveMap → Field → Result Field (ℕ × ℕ)
mapped_with (Nearest m) field = nearest_field m field
mapped_with (Edges m) field = projected_field m field

-- a mapped sample
abbrev pub mapped_at : WaveMap → Sample → Result Sample OutOfRange
mapped_at m sample = with_field sample.time (mapped_with m sample.field)

-- a mapped wave, or the first place where it is undefined
abbrev pub mapped_through : WaveMap → Wave → Result Wave OutOfRange
mapped_through m wave = all_or_first (map (mapped_at m) wave)
