use Rattle.std.proofs.Common.{◌≡◌, map, take}
use Rattle.cpl_config.specs.declared.config.ReceivesEntry.{ReceivesEntry}
use Rattle.scheme_parts.specs.NumbersOf.{mesh_number}
use Rattle.plan_build.proofs.participants.received.Given as goal

abbrev pub invariant-entries : goal.invariant-entries
invariant-entries l = l.numbers.items ≡ map (λ (entry : ReceivesEntry). mesh_number l.config entry.mesh) (take l.entry-index l.entries)
