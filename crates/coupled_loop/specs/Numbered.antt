-- What there is of each participant, by its number. The project's own.
use Rattle.std.specs.Prelude.{ℕ, nat_eq, if◌then◌else◌}

-- the same, but for one participant
abbrev pub put : {X : Type 0} → (ℕ → X) → ℕ → X → ℕ → X
put all part one other = if nat_eq other part then one else all other
