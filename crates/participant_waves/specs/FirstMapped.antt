-- What is kept of the field that was mapped first: what it is mapped to. The project's own.
use Rattle.std.specs.Prelude.{◌≡◌, Option, None, Some, Ok, ⊤}
use Rattle.wave_maps.specs.declared.wave_map.WaveMap.{WaveMap}
use Rattle.wave_maps.specs.MappedThrough.{mapped_with}
use Rattle.participant_waves.specs.declared.taking.First.{First}

abbrev pub IsFirst : WaveMap → First → Type 0
IsFirst m first = mapped_with m first.given ≡ Ok first.mapped

-- where there is a mapping and such a field
abbrev pub IsFirstOf : Option WaveMap → Option First → Type 0
IsFirstOf map None = ⊤
IsFirstOf None (Some first) = ⊤
IsFirstOf (Some m) (Some first) = IsFirst m first
