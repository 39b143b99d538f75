use Rattle.std.proofs.Common.{◌≡◌, ◌+◌, map}
use Rattle.std.specs.List.{range_with_len}
use Rattle.wave_maps.proofs.edges.chain.Given as goal

abbrev pub invariant-loop-v : goal.invariant-loop-v
invariant-loop-v l = l.edges.items ≡ map (λ v. record { a = v; b = v + 1 }) (range_with_len 0 l.v)
