-- What is told of an entry at its place is what is told of the entry that is sent.
use Rattle.std.proofs.Common.{◌≡◌, Option, None, Some, IfSome, subst}
use Rattle.std.specs.Option.{option_map, option_map_or}
use Rattle.std.proofs.lemmas.Option.{none-some, same_Some}

-- the value of what is there
pub told_or : {X Y : Type 0} (f : X → Y) (o : Option X) (d y : Y) → option_map f o ≡ Some y → option_map_or f o d ≡ y
told_or f None d y is = absurd (none-some y is)
told_or f (Some x) d y is = same_Some (f x) y is

-- a fact of it
pub told_holds : {X Y : Type 0} (f : X → Y) (P : Y → Type 0) (o : Option X) (y : Y) → option_map f o ≡ Some y → IfSome o (λ x. P (f x)) → P y
told_holds f P None y is holds = absurd (none-some y is)
told_holds f P (Some x) y is holds = subst P (same_Some (f x) y is) holds
