use Rattle.std.proofs.Common.{◌≡◌, map, take}
use Rattle.plan_build.specs.PartOf.{watch_of}
use Rattle.plan_build.proofs.participants.watches.Given as goal

abbrev pub invariant-entries : goal.invariant-entries
invariant-entries l = l.watches.items ≡ map (watch_of l.config) (take l.entry-index l.entries)
