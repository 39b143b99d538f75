-- What one accelerated exchange has in an iteration, and which of that can be relaxed. The coupling documentation relaxes the data that a configuration names; the limits are the project's own.
use Rattle.std.specs.Prelude.{◌≡◌, ◌⊎◌, ℕ, ◌≤◌, List, length, All, map}
use Rattle.std.specs.List.{zip}
use Rattle.waveform.specs.declared.sample.Sample.{Sample}
use Rattle.waveform.specs.IsWave.{first_time, last_time}
use Rattle.waveform.specs.Shape.{IsLike}

-- the degree of its data, the wave that was read in the iteration and the wave that was posted
pub record Exchanged : Type 0 where
  pub degree : ℕ
  pub taken : List Sample
  pub posted : List Sample

abbrev pub exchange_of : ℕ → List Sample → List Sample → Exchanged
exchange_of degree taken posted = record { degree = degree; taken = taken; posted = posted }

-- the exchanges of three lists, in order
abbrev pub exchanged : List ℕ → List (List Sample) → List (List Sample) → List Exchanged
exchanged degrees read posted = map (λ e. exchange_of e.0 e.1.0 e.1.1) (zip degrees (zip read posted))

-- what was read and what was posted have as many values and components
abbrev pub IsAlike : Exchanged → Type 0
IsAlike e = All (λ x. All (λ y. IsLike x.field y.field) e.posted) e.taken

-- the wave that was read has a value at each posted time
abbrev pub Covers : Exchanged → Type 0
Covers e =
    (length e.taken ≡ 1)
    ⊎ All (λ y. (first_time e.taken ≤ y.time) × (y.time ≤ last_time e.taken)) e.posted

-- it can be relaxed
pub record CanRelax (e : Exchanged) : Type 0 where
  pub degree : e.degree ≤ 1
  pub alike : IsAlike e
  pub covered : Covers e
