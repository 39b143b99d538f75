-- What the solvers of each kind stand on, so that their sums fit and their indexes are in range. The project's own.
use Rattle.std.specs.Prelude.{◌≡◌, ℕ, ◌<◌, ◌≤◌, ◌+◌, ◌/◌, ◌*◌, ◌^◌, ◌==◌, ◌||◌, Bool, List, pos, ◌≤ℤ◌, unsigned_abs, length, IsTrue}
use Rattle.std.specs.List.{All}
use Rattle.fixed_num.specs.Numbers.{IsValue, IsFactor}
use Rattle.line_solvers.specs.declared.case.Pair.{Pair}
use Rattle.line_solvers.specs.declared.case.RowParts.{RowParts}
use Rattle.line_solvers.specs.declared.case.RodNumbers.{RodNumbers}
use Rattle.line_solvers.specs.declared.case.SpringNumbers.{SpringNumbers}
use Rattle.line_solvers.specs.declared.case.RecordEntry.{RecordEntry}
use Rattle.line_solvers.specs.Common.{LineView}

-- what all kinds stand on
pub record IsSoundLine (line : LineView) : Type 0 where
  pub a_tick : 1 ≤ line.common.step
  pub values : All IsValue line.state
  pub out : All (λ place. place < length line.state) line.common.out

-- the pair weighs one of so many values
pub record IsPairOf (count : ℕ) (pair : Pair) : Type 0 where
  pub from_zero : pos 0 ≤ℤ pair.index
  pub in_range : unsigned_abs pair.index < count
  pub factor : IsFactor pair.number

-- a row over so many components and so many inputs
pub record IsSoundRow (components inputs : ℕ) (row : RowParts) : Type 0 where
  pub add : IsValue row.add
  pub few_states : length row.states ≤ 64
  pub few_reads : length row.reads ≤ 64
  pub states : All (IsPairOf components) row.states
  pub reads : All (IsPairOf inputs) row.reads

-- rows, one for each component
pub record IsSoundRows (listed : List RowParts) (components inputs : ℕ) : Type 0 where
  pub a_row_each : length listed ≡ components
  pub rows : All (IsSoundRow components inputs) listed

-- the coefficients of a rod
pub record AreRodNumbers (rod : RodNumbers) : Type 0 where
  pub alpha : IsFactor rod.alpha
  pub beta : IsFactor rod.beta

-- the coefficients of a spring
pub record AreSpringNumbers (spring : SpringNumbers) : Type 0 where
  pub stiff : IsFactor spring.stiff
  pub damp : IsFactor spring.damp
  pub gain : IsFactor spring.gain
  pub rate : IsFactor spring.rate

-- whether there are no reads, or one for each of so many places
abbrev pub none_or_each : (reads places : ℕ) → Bool
none_or_each reads places = (reads == 0) || (reads == places)

-- a rod, which reads nothing or a value for each component
pub record IsSoundRod (rod : RodNumbers) (components inputs : ℕ) : Type 0 where
  pub numbers : AreRodNumbers rod
  pub reads : IsTrue (none_or_each inputs components)

-- a spring, which has as many velocities as positions, and reads nothing or a value for each position
pub record IsSoundSpring (spring : SpringNumbers) (components inputs : ℕ) : Type 0 where
  pub numbers : AreSpringNumbers spring
  pub halves : components ≡ 2 * (components / 2)
  pub reads : IsTrue (none_or_each inputs (components / 2))

-- a record of a participant whose state has so many components: behind component 0 there is one for each written value
pub record IsSoundRecord (components : ℕ) (entry : RecordEntry) : Type 0 where
  pub a_tick : pos 1 ≤ℤ entry.dt
  pub step_limit : entry.dt ≤ℤ pos (10 ^ 9)
  pub a_value_each : 1 + length entry.writes ≡ components
  pub values : All IsValue entry.writes

-- the records of a participant, which reads any number of values
pub record AreSoundRecords (records : List RecordEntry) (components inputs : ℕ) : Type 0 where
  pub few : length records ≤ 10000
  pub entries : All (IsSoundRecord components) records
