-- What a store holds, by how far its exchange has come: the ends of the last two accepted windows, and the last two iterates of the newest window. The project's own.
use Rattle.std.specs.Prelude.{◌≡◌, ◌⊎◌, ℕ, ◌+◌, ◌-◌, ◌≤◌, true, if◌then◌else◌}
use Rattle.sample_store.specs.declared.progress.Progress.{Progress}

-- the initial values count as those of the accepted window 0
abbrev pub newest_accepted : Progress → ℕ
newest_accepted progress = if progress.is_accepted then progress.window else progress.window - 1

-- the end of window v
abbrev pub HoldsEnd : Progress → (v : ℕ) → Type 0
HoldsEnd progress v = (v ≡ newest_accepted progress) ⊎ (v + 1 ≡ newest_accepted progress)

-- the end of the window before w
abbrev pub HoldsEndBefore : Progress → (w : ℕ) → Type 0
HoldsEndBefore progress w = (1 ≤ w) × HoldsEnd progress (w - 1)

-- the post of turn (w, k)
abbrev pub HoldsIterate : Progress → (w k : ℕ) → Type 0
HoldsIterate progress w k = (w ≡ progress.window) × (1 ≤ k) × ((k ≡ progress.iteration) ⊎ (k + 1 ≡ progress.iteration))

-- all samples accepted for window w
abbrev pub HoldsAccepted : Progress → (w : ℕ) → Type 0
HoldsAccepted progress w = (progress.is_accepted ≡ true) × (w ≡ progress.window)
