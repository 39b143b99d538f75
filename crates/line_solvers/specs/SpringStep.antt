-- What a step makes of a spring: the state has m positions and then m velocities; the new velocities come from the old
-- positions, and the new positions from the new velocities. The project's own.
use Rattle.std.specs.Prelude.{ℕ, ◌+◌, ◌-◌, ◌/◌, ◌==◌, List, ℤ, pos, ◌+ℤ◌, ◌-ℤ◌, ◌*ℤ◌, length, map, take, drop, ◌++◌, if◌then◌else◌}
use Rattle.std.specs.List.{range_with_len}
use Rattle.line_solvers.specs.declared.case.SpringNumbers.{SpringNumbers}
use Rattle.line_solvers.specs.Components.{component}
use Rattle.line_solvers.specs.Moved.{moved}

-- how many positions a state has, and as many velocities
abbrev pub half : List ℤ → ℕ
half state = length state / 2

abbrev pub positions : List ℤ → List ℤ
positions state = take (half state) state

abbrev pub velocities : List ℤ → List ℤ
velocities state = drop (half state) state

-- the neighbours of position i; beyond an end the neighbour is 0
abbrev pub before : List ℤ → ℕ → ℤ
before xs i = if i == 0 then pos 0 else component xs (i - 1)

abbrev pub after : List ℤ → ℕ → ℤ
after xs i = if i + 1 == length xs then pos 0 else component xs (i + 1)

-- how far its two neighbours are from it, together
abbrev pub bend : List ℤ → ℕ → ℤ
bend xs i = (before xs i -ℤ (pos 2 *ℤ component xs i)) +ℤ after xs i

-- what position i reads; without reads this term is left out
abbrev pub push : (inputs : List ℤ) → ℕ → ℤ
push inputs i = if length inputs == 0 then pos 0 else component inputs i

-- how fast velocity i changes, in millionths of a unit a tick
abbrev pub spring_slope : SpringNumbers → (xs vs inputs : List ℤ) → ℕ → ℤ
spring_slope spring xs vs inputs i =
    ((spring.stiff *ℤ bend xs i) -ℤ (spring.damp *ℤ component vs i)) +ℤ (spring.gain *ℤ push inputs i)

abbrev pub new_velocity : SpringNumbers → (ticks : ℕ) (xs vs inputs : List ℤ) → ℕ → ℤ
new_velocity spring ticks xs vs inputs i = moved (component vs i) (spring_slope spring xs vs inputs i) ticks

abbrev pub new_velocities : SpringNumbers → (ticks : ℕ) (xs vs inputs : List ℤ) → List ℤ
new_velocities spring ticks xs vs inputs = map (new_velocity spring ticks xs vs inputs) (range_with_len 0 (length xs))

-- where velocity i takes position i
abbrev pub new_position : (rate : ℤ) (ticks : ℕ) (xs vs : List ℤ) → ℕ → ℤ
new_position rate ticks xs vs i = moved (component xs i) (rate *ℤ component vs i) ticks

abbrev pub new_positions : (rate : ℤ) (ticks : ℕ) (xs vs : List ℤ) → List ℤ
new_positions rate ticks xs vs = map (new_position rate ticks xs vs) (range_with_len 0 (length xs))

-- where the new velocities take the positions, and these velocities
abbrev pub moved_by : (rate : ℤ) (ticks : ℕ) (xs vs : List ℤ) → List ℤ
moved_by rate ticks xs vs = new_positions rate ticks xs vs ++ vs

-- the components after so many ticks
abbrev pub spring_components : SpringNumbers → (ticks : ℕ) (state inputs : List ℤ) → List ℤ
spring_components spring ticks state inputs =
    moved_by spring.rate ticks (positions state) (new_velocities spring ticks (positions state) (velocities state) inputs)
