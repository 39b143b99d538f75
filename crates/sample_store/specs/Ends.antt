-- The newest sample of what was accepted for a window, by a look-up in all that was given. The project's own.
use Rattle.std.specs.Prelude.{ℕ, ◌-◌, List, length, Option, option_map, slice_get}
use Rattle.std.specs.Option.{option_and_then}
use Rattle.cpl_plan.specs.declared.words.Item.TheVariants.{Completed}
use Rattle.coupled_loop.specs.Given.{Gift, found}
use Rattle.waveform.specs.declared.sample.Sample.{Sample}

abbrev pub newest_sample : List Sample → Option Sample
newest_sample samples = slice_get samples (length samples - 1)

abbrev pub end_sample : List (Gift (List Sample)) → (w : ℕ) → Option Sample
end_sample given w = option_and_then (λ gift. newest_sample gift.post) (found given (Completed w))

-- an end: the iteration that was accepted, and its newest sample, which each wave has
pub record WindowEnd : Type 0 where
  pub iteration : ℕ
  pub sample : Option Sample

abbrev pub end_of_wave : (iteration : ℕ) → List Sample → WindowEnd
end_of_wave iteration wave = record { iteration = iteration; sample = newest_sample wave }

abbrev pub window_end : List (Gift (List Sample)) → (w : ℕ) → Option WindowEnd
window_end given w = option_map (λ gift. end_of_wave gift.iteration gift.post) (found given (Completed w))
