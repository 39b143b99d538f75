-- What new components lead to: they become the state, or the step faults. The project's own.
use Rattle.std.specs.Prelude.{ℕ, Bool, false, Option, Some, None, List, ℤ, unsigned_abs, nat_le, map, if◌then◌else◌}
use Rattle.std.specs.List.{list_all, list_any}
use Rattle.fixed_num.specs.Numbers.{is_value}
use Rattle.solver_trait.specs.Behaviour.{Next, goes_on, faults}
use Rattle.line_solvers.specs.Components.{component}

-- whether some component has an absolute value of at least the bound that is forbidden, if there is one
abbrev pub reaches : Option ℕ → List ℤ → Bool
reaches None components = false
reaches (Some bound) components = list_any (λ units. nat_le bound (unsigned_abs units)) components

-- the components that are written: those at these indexes, in this order
abbrev pub written : List ℕ → List ℤ → List ℤ
written out components = map (component components) out

-- where one is no Value, the step faults with code 1; then, where one reaches the bound, with code 2; else they become
-- the state
abbrev pub checked : Option ℕ → List ℕ → List ℤ → Next (List ℤ)
checked forbid out components =
    if list_all is_value components
    then (if reaches forbid components then faults 2 else goes_on components (written out components))
    else faults 1

-- what the step leads to: without new components, as a recorded participant without a record has none, it faults with
-- code 3
abbrev pub led_to : Option ℕ → List ℕ → Option (List ℤ) → Next (List ℤ)
led_to forbid out None = faults 3
led_to forbid out (Some components) = checked forbid out components
