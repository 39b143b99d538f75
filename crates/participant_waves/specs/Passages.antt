-- What a mapping that was made once, or none, makes of a wave, and which waves it can map. After the coupling documentation's read and write mappings, which an exchange may have.
use Rattle.std.specs.Prelude.{◌≡◌, ℕ, Option, Some, None, Result, Ok, Err, All, ⊤}
use Rattle.nn_mapping.specs.MappedField.{IsFieldOn}
use Rattle.wave_coupling.specs.Posts.{Wave}
use Rattle.wave_coupling.specs.Mapped.{OutOfRange}
use Rattle.wave_maps.specs.declared.wave_map.WaveMap.{WaveMap}
use Rattle.wave_maps.specs.declared.map_errors.WaveRefusal.{WaveRefusal}
use Rattle.wave_maps.specs.declared.map_errors.WaveRefusal.TheVariants.{OutOfRange as OutAtTime, Memory}
use Rattle.wave_maps.specs.MappedThrough.{mapped_through, sources_of, targets_of}

-- the wave, mapped where there is a mapping; or the first place where that is undefined
abbrev pub through : Option WaveMap → Wave → Result Wave OutOfRange
through None wave = Ok wave
through (Some m) wave = mapped_through m wave

-- the mapping is from a mesh of so many vertices
abbrev pub HasSources : (vertices : ℕ) → Option WaveMap → Type 0
HasSources vertices None = ⊤
HasSources vertices (Some m) = sources_of m ≡ vertices

-- it is to a mesh of so many
abbrev pub HasTargets : (vertices : ℕ) → Option WaveMap → Type 0
HasTargets vertices None = ⊤
HasTargets vertices (Some m) = vertices ≡ targets_of m

-- each sample has a value for each component at each vertex of the mesh that is mapped from
abbrev pub CanPass : Option WaveMap → Wave → Type 0
CanPass None wave = ⊤
CanPass (Some m) wave = All (λ s. IsFieldOn s.field (sources_of m)) wave

-- a place is told where the mapped wave is undefined there first; want of memory is free
abbrev pub IsPassCause : Option WaveMap → Wave → WaveRefusal → Type 0
IsPassCause map wave (OutAtTime time vertex component) =
    through map wave ≡ Err (record { time = time; vertex = vertex; component = component })
IsPassCause map wave Memory = ⊤
