use Rattle.std.proofs.Common.{◌≡◌, ◌++◌, map, take}
use Rattle.config_rules.specs.Circles.{number_of}
use Rattle.scheme_parts.proofs.members.push_each.Given as goal

abbrev pub invariant-names : goal.invariant-names
invariant-names l = l.to.items ≡ l.fn.to.items ++ map (number_of l.config) (take l.name-index l.names)
