-- What is kept of the exchanges that a participant receives: of each its number, and its read mapping if it has one. The project's own.
use Rattle.std.specs.Prelude.{ℕ, List, Option}
use Rattle.wave_maps.specs.declared.wave_map.WaveMap.{WaveMap}

pub record TakingKept : Type 0 where
  pub exchange : ℕ
  pub map : Option WaveMap

-- all that a participant receives, in order
pub record TakesKept : Type 0 where
  pub part : ℕ
  pub takings : List TakingKept
