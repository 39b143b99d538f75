use Rattle.std.proofs.Common.{◌≡◌, map, take}
use Rattle.scheme_parts.specs.NumbersOf.{mesh_number}
use Rattle.plan_build.proofs.participants.mesh_numbers.Given as goal

abbrev pub invariant-names : goal.invariant-names
invariant-names l = l.numbers.items ≡ map (mesh_number l.config) (take l.name-index l.names)
