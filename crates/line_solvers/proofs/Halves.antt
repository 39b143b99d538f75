-- How many components a step of a spring makes.
use Rattle.std.proofs.Common.{◌≡◌, ℕ, ◌*◌, ◌/◌, List, length, ℤ, arith, length-append}
use Rattle.std.proofs.lemmas.List.{length-take}
use Rattle.std.proofs.lemmas.List.FromFn.{length-map-range_with_len}
use Rattle.line_solvers.specs.declared.case.SpringNumbers.{SpringNumbers}
use Rattle.line_solvers.specs.SpringStep.{positions, velocities, new_velocity, new_velocities, new_position, new_positions, spring_components}

-- a step keeps the number of components
pub length-spring : (spring : SpringNumbers) (ticks : ℕ) (state inputs : List ℤ) → length state ≡ 2 * (length state / 2) → length (spring_components spring ticks state inputs) ≡ length state
length-spring spring ticks state inputs halves =
    let xs = positions state in
    let vs = new_velocities spring ticks xs (velocities state) inputs in
    let moved = length-map-range_with_len (new_position spring.rate ticks xs vs) 0 (length xs) in
    let pushed = length-map-range_with_len (new_velocity spring ticks xs (velocities state) inputs) 0 (length xs) in
    let both = length-append (new_positions spring.rate ticks xs vs) vs in
    let half = length-take (length state / 2) state in
    omega arith
