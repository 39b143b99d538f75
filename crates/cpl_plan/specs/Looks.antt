-- Looking for a place in a list: what is there, or how many items past its end the place is. The project's own.
use Rattle.std.specs.Prelude.{◌≡◌, ℕ, ◌+◌, List, length, slice_get, Some}
use Rattle.cpl_plan.specs.declared.needs.Look.{Look}
use Rattle.cpl_plan.specs.declared.needs.Look.TheVariants.{Here, Past}

abbrev pub IsLook : {X : Type 0} → List X → ℕ → Look X → Type 0
IsLook xs place (Here x) = slice_get xs place ≡ Some x
IsLook xs place (Past rest) = place ≡ length xs + rest
