-- When an error names the first value out of range. The project's own; want of memory is a free answer.
use Rattle.std.specs.Prelude.{◌≡◌, Option, Some, ⊤}
use Rattle.acceleration.specs.declared.error.AccErr.{AccErr}
use Rattle.acceleration.specs.declared.error.AccErr.TheVariants.{Overflow, Memory}
use Rattle.acceleration.specs.Outside.{Location}

-- the error tells the location that is first
abbrev pub Tells : Option Location → AccErr → Type 0
Tells first (Overflow place time component) = first ≡ Some (record { place = place; time = time; component = component })
Tells first Memory = ⊤
