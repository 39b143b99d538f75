-- What a store keeps is what look-ups in the list of all that was given tell. The project's own.
use Rattle.std.specs.Prelude.{◌≡◌, ℕ, ◌+◌, ◌≤◌, true, List, Some}
use Rattle.cpl_plan.specs.declared.words.Item.TheVariants.{Completed, Posted}
use Rattle.coupled_loop.specs.Given.{Gift, found}
use Rattle.waveform.specs.declared.sample.Sample.{Sample}
use Rattle.sample_store.specs.declared.store.Iterate.{Iterate}
use Rattle.sample_store.specs.ProgressOf.{progress_of}
use Rattle.sample_store.specs.InOrder.{IsInOrder}
use Rattle.sample_store.specs.Ends.{WindowEnd, window_end}
use Rattle.sample_store.specs.Kept.{Kept}

-- a post of window w, and what was accepted for it
abbrev pub posted : (w : ℕ) → Iterate → Gift (List Sample)
posted w one = record { item = Posted w one.iteration; iteration = one.iteration; post = one.wave }

abbrev pub completed : (w : ℕ) → Iterate → Gift (List Sample)
completed w one = record { item = Completed w; iteration = one.iteration; post = one.wave }

pub record StandsFor (given : List (Gift (List Sample))) (kept : Kept) : Type 0 where
  pub progress : progress_of given ≡ Some kept.progress
  pub order : IsInOrder given kept.progress
  pub newest : 1 ≤ kept.progress.iteration → found given (Posted kept.progress.window kept.progress.iteration)
      ≡ Some (posted kept.progress.window (record { iteration = kept.progress.iteration; wave = kept.newest }))
  pub accepted : kept.progress.is_accepted ≡ true → found given (Completed kept.progress.window)
      ≡ Some (completed kept.progress.window (record { iteration = kept.progress.iteration; wave = kept.newest }))
  pub previous : (one : Iterate) → kept.previous ≡ Some one
      → found given (Posted kept.progress.window one.iteration) ≡ Some (posted kept.progress.window one)
  pub last : (v : ℕ) (end : WindowEnd) → v + 1 ≡ kept.progress.window → kept.last ≡ Some end → window_end given v ≡ Some end
  pub older : (v : ℕ) (end : WindowEnd) → v + 2 ≡ kept.progress.window → kept.older ≡ Some end → window_end given v ≡ Some end
