-- What a store keeps, the same few waves and ends however much was given. The project's own.
use Rattle.std.specs.Prelude.{◌≡◌, ◌+◌, ◌≤◌, false, List, Option, Some, IsSome}
use Rattle.waveform.specs.declared.sample.Sample.{Sample}
use Rattle.sample_store.specs.declared.progress.Progress.{Progress}
use Rattle.sample_store.specs.declared.store.Iterate.{Iterate}
use Rattle.sample_store.specs.Ends.{WindowEnd}

pub record Kept : Type 0 where
  pub progress : Progress
  -- the newest post, of the newest window and iteration
  pub newest : List Sample
  -- the one before it, of the same window
  pub previous : Option Iterate
  -- the ends of the window before the newest, and of the one before that
  pub last : Option WindowEnd
  pub older : Option WindowEnd

-- what has to be there is there
pub record IsKept (kept : Kept) : Type 0 where
  pub last : 1 ≤ kept.progress.window → IsSome kept.last
  pub older : kept.progress.is_accepted ≡ false → 2 ≤ kept.progress.window → IsSome kept.older
  pub previous : 2 ≤ kept.progress.iteration → IsSome kept.previous
  pub one_before : (post : Iterate) → kept.previous ≡ Some post → post.iteration + 1 ≡ kept.progress.iteration
