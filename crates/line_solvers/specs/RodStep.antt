-- What a step makes of a rod: each component is drawn to its two neighbours, and to the value that it reads. The project's own.
use Rattle.std.specs.Prelude.{ℕ, ◌+◌, ◌-◌, ◌==◌, min, List, ℤ, pos, ◌+ℤ◌, ◌-ℤ◌, ◌*ℤ◌, length, map, if◌then◌else◌}
use Rattle.std.specs.List.{range_with_len}
use Rattle.line_solvers.specs.declared.case.RodNumbers.{RodNumbers}
use Rattle.line_solvers.specs.Components.{component}
use Rattle.line_solvers.specs.Moved.{moved}

-- the neighbours of component i; beyond an end the neighbour is the end itself
abbrev pub before : List ℤ → ℕ → ℤ
before state i = component state (i - 1)

abbrev pub after : List ℤ → ℕ → ℤ
after state i = component state (min (i + 1) (length state - 1))

-- how far its two neighbours are from it, together
abbrev pub bend : List ℤ → ℕ → ℤ
bend state i = (before state i -ℤ (pos 2 *ℤ component state i)) +ℤ after state i

-- how far what it reads is from it; without reads this term is left out
abbrev pub pull : (state inputs : List ℤ) → ℕ → ℤ
pull state inputs i = if length inputs == 0 then pos 0 else (component inputs i -ℤ component state i)

-- how fast component i changes, in millionths of a unit a tick
abbrev pub rod_slope : RodNumbers → (state inputs : List ℤ) → ℕ → ℤ
rod_slope rod state inputs i = (rod.alpha *ℤ bend state i) +ℤ (rod.beta *ℤ pull state inputs i)

abbrev pub rod_component : RodNumbers → (ticks : ℕ) (state inputs : List ℤ) → ℕ → ℤ
rod_component rod ticks state inputs i = moved (component state i) (rod_slope rod state inputs i) ticks

-- the components after so many ticks
abbrev pub rod_components : RodNumbers → (ticks : ℕ) (state inputs : List ℤ) → List ℤ
rod_components rod ticks state inputs = map (rod_component rod ticks state inputs) (range_with_len 0 (length state))
