-- What sums of so many written values have to be. The project's own.
use Rattle.std.specs.Prelude.{◌≡◌, ℕ, ◌+◌, ◌<◌, ◌≤◌, false, List, All, length, count_by}
use Rattle.data_actions.specs.declared.sums.Sum.{Sum}
use Rattle.data_actions.specs.SummedValues.{makes, is_made}

-- the sum's target and its sources, at most 64, are among so many values
pub record IsSumOf (count : ℕ) (sum : Sum) : Type 0 where
  pub target : sum.target + sum.length ≤ count
  pub sources : All (λ source. source + sum.length ≤ count) sum.sources
  pub few : length sum.sources ≤ 64

-- all are such sums; no place is one of two targets, and no place of a source one of a target
pub record AreSums (count : ℕ) (sums : List Sum) : Type 0 where
  pub in_range : All (IsSumOf count) sums
  pub once : (place : ℕ) → count_by (makes place) sums ≤ 1
  pub apart : All (λ sum. All (λ source. (offset : ℕ) → offset < sum.length → is_made sums (source + offset) ≡ false) sum.sources) sums
