-- How far an exchange has come, which the newest of its gifts tells. The project's own.
use Rattle.std.specs.Prelude.{ℕ, Bool, true, false, List, Option, None, option_map}
use Rattle.std.specs.List.{last_or}
use Rattle.cpl_plan.specs.declared.words.Item.{Item}
use Rattle.cpl_plan.specs.declared.words.Item.TheVariants.{Completed, Posted}
use Rattle.coupled_loop.specs.Given.{Gift}
use Rattle.sample_store.specs.declared.progress.Progress.{Progress}

abbrev pub window_of : Item → ℕ
window_of (Completed w) = w
window_of (Posted w k) = w

abbrev pub is_completed : Item → Bool
is_completed (Completed w) = true
is_completed (Posted w k) = false

-- after a gift: its window, its iteration, and whether it is an acceptance
abbrev pub progress_after : {Post : Type 0} → Gift Post → Progress
progress_after gift = record { window = window_of gift.item; iteration = gift.iteration; is_accepted = is_completed gift.item }

-- after all that was given; none where nothing was
abbrev pub progress_of : {Post : Type 0} → List (Gift Post) → Option Progress
progress_of given = option_map progress_after (last_or None given)
