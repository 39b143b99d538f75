use Rattle.std.proofs.Common.{◌≡◌, map, take}
use Rattle.scheme_parts.specs.NumbersOf.{data_number}
use Rattle.plan_build.proofs.meshes.data_numbers.Given as goal

abbrev pub invariant-names : goal.invariant-names
invariant-names l = l.numbers.items ≡ map (data_number l.config) (take l.name-index l.names)
