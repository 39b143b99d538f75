-- Errors that are handed on.
use Rattle.std.proofs.Common.{◌≡◌, Option, Some}
use Rattle.acceleration.specs.declared.error.AccErr.{AccErr}
use Rattle.acceleration.specs.declared.error.AccErr.TheVariants.{Overflow, Memory}
use Rattle.acceleration.specs.Outside.{Location}
use Rattle.acceleration.specs.Causes.{Tells}

-- what is first in a part is first in the whole
pub tells_on : (part all : Option Location) (error : AccErr) → ((location : Location) → part ≡ Some location → all ≡ Some location) → Tells part error → Tells all error
tells_on part all (Overflow place time component) on told = on (record { place = place; time = time; component = component }) told
tells_on part all Memory on told = tt
