-- What is kept of an entry that a participant writes: the values that are written next, and a sample for each step of its turn. After the coupling documentation's write entries and substeps.
use Rattle.std.specs.Prelude.{ℕ, ◌<◌, ◌≤◌, ℤ, List, length, All, AllPairs}
use Rattle.waveform.specs.Shape.{IsLike}
use Rattle.waveform.specs.declared.field.Field.{Field}
use Rattle.waveform.specs.declared.sample.Sample.{Sample}

-- data on the mesh at a place among the provided ones, with so many components at each vertex
pub record WriteKept : Type 0 where
  pub data_id : ℕ
  pub mesh : ℕ
  pub components : ℕ
  pub values : List ℤ
  pub samples : List Sample

-- the same by its parts
abbrev pub kept_of : (data_id mesh : ℕ) → Field → List Sample → WriteKept
kept_of data_id mesh field samples = record {
  data_id = data_id;
  mesh = mesh;
  components = field.components;
  values = field.values;
  samples = samples;
}

-- the values as a field
abbrev pub field_of : WriteKept → Field
field_of entry = record { components = entry.components; values = entry.values }

-- the samples of a turn: each after all before it, of the shape of what is written next, and not more than a turn has steps
pub record AreSamples (entry : WriteKept) : Type 0 where
  pub rising : AllPairs (λ s later. s.time < later.time) entry.samples
  pub alike : All (λ s. IsLike s.field (field_of entry)) entry.samples
  pub few : length entry.samples ≤ 1024

-- one more sample may follow
pub record TakesSample (time : ℕ) (entry : WriteKept) : Type 0 where
  pub after : All (λ s. s.time < time) entry.samples
  pub room : length entry.samples < 1024
