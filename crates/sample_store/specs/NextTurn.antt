-- The turn whose post comes next. After the coupling documentation, where an implicit scheme repeats a window until it is accepted.
use Rattle.std.specs.Prelude.{ℕ, ◌+◌, if◌then◌else◌}
use Rattle.sample_store.specs.declared.progress.Progress.{Progress}

-- the first iteration of the next window, or the next iteration of the same
abbrev pub next_turn : Progress → ℕ × ℕ
next_turn progress = if progress.is_accepted then (progress.window + 1, 1) else (progress.window, progress.iteration + 1)
