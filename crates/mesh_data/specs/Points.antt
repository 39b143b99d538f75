-- Points. The coupling documentation has vertices in two or three dimensions; whole units and their range are the project's own.
use Rattle.std.specs.Prelude.{◌≡◌, ℕ, ◌≤◌, ℤ, List, All, length}
use Rattle.fixed_num.specs.Numbers.{IsCoordinate}

-- space has from one to three dimensions
abbrev pub IsDimension : ℕ → Type 0
IsDimension dimensions = (1 ≤ dimensions) × (dimensions ≤ 3)

-- a point is a list of coordinates, one for each dimension
pub record IsPoint (dimensions : ℕ) (at : List ℤ) : Type 0 where
  pub one_for_each : length at ≡ dimensions
  pub in_range : All IsCoordinate at
