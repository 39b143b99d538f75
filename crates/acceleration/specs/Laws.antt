-- The words of the laws on relaxation. The project's own.
use Rattle.std.specs.Prelude.{◌≡◌, ◌^◌, List, ℤ, pos, ◌≤ℤ◌, length, All}
use Rattle.fixed_num.specs.Numbers.{IsValue}
use Rattle.waveform.specs.declared.sample.Sample.{Sample}
use Rattle.waveform.specs.WaveValue.{read}
use Rattle.acceleration.specs.Exchanged.{Exchanged}

-- a factor between zero and one
pub record IsPart (factor : ℤ) : Type 0 where
  pub least : pos 0 ≤ℤ factor
  pub most : factor ≤ℤ pos (10 ^ 6)

-- what was read at the time of a posted sample
abbrev pub read_beside : Exchanged → Sample → List ℤ
read_beside e sample = read e.taken e.degree sample.time

-- as many values were read as were posted, at each posted time
abbrev pub ReadsAsMany : Exchanged → Type 0
ReadsAsMany e = All (λ y. length (read_beside e y) ≡ length y.field.values) e.posted

-- what was read at each posted time is what was posted
abbrev pub IsFixedPoint : Exchanged → Type 0
IsFixedPoint e = All (λ y. read_beside e y ≡ y.field.values) e.posted

-- what was read at each posted time, and what was posted, are Values
pub record HasValues (e : Exchanged) : Type 0 where
  pub taken : All (λ y. All IsValue (read_beside e y)) e.posted
  pub posted : All (λ y. All IsValue y.field.values) e.posted
