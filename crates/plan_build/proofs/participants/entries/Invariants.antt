use Rattle.std.proofs.Common.{◌≡◌, map, take}
use Rattle.plan_build.specs.PartOf.{entry_of}
use Rattle.plan_build.proofs.participants.entries.Given as goal

abbrev pub invariant-entries : goal.invariant-entries
invariant-entries l = l.numbered.items ≡ map (entry_of l.config) (take l.entry-index l.entries)
