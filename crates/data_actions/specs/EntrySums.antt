-- Sums of whole entries of written values, which stand one after the other. From the coupling documentation's summation action, whose target and sources are data that are written.
use Rattle.std.specs.Prelude.{◌≡◌, ◌≢◌, ℕ, ◌<◌, ◌≤◌, List, All, AllPairs, length, map, sum, take, slice_index}
use Rattle.data_actions.specs.declared.sums.Sum.{Sum}

-- a sum by the numbers of its entries, from 0
pub record EntrySum : Type 0 where
  pub target : ℕ
  pub sources : List ℕ

-- the first place of an entry, where entries have so many values: behind all those before it
abbrev pub place_of : (lengths : List ℕ) → (entry : ℕ) → ℕ
place_of lengths entry = sum (take entry lengths)

-- the sum of the entries' values, place by place
abbrev pub sum_of_entries : (lengths : List ℕ) → EntrySum → Sum
sum_of_entries lengths one =
    record {
      target = place_of lengths one.target;
      sources = map (place_of lengths) one.sources;
      length = slice_index lengths one.target;
    }

-- the sum's entries are there, its sources as long as its target and at most 64
pub record IsEntrySum (lengths : List ℕ) (one : EntrySum) : Type 0 where
  pub target : one.target < length lengths
  pub sources : All (λ source. source < length lengths) one.sources
  pub alike : All (λ source. slice_index lengths source ≡ slice_index lengths one.target) one.sources
  pub few : length one.sources ≤ 64

-- all are such sums; no entry is the target of two, and no target is a source
pub record AreEntrySums (lengths : List ℕ) (sums : List EntrySum) : Type 0 where
  pub each : All (IsEntrySum lengths) sums
  pub once : AllPairs (λ one other. one.target ≢ other.target) sums
  pub apart : All (λ one. All (λ other. All (λ source. source ≢ other.target) one.sources) sums) sums
