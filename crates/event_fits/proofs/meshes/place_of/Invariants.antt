use Rattle.std.proofs.Common.{◌≡◌, nat_eq, position, drop}
use Rattle.std.specs.List.{position_from}
use Rattle.event_fits.proofs.meshes.place_of.Given as goal

abbrev pub invariant-loop-place : goal.invariant-loop-place
invariant-loop-place l = position_from (nat_eq l.number) l.place (drop l.place l.numbers) ≡ position (nat_eq l.number) l.numbers
