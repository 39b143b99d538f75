use Rattle.std.proofs.Common.{◌≡◌, map, take}
use Rattle.call_parts.proofs.taken.sources_of.Given as goal

-- the sources of the inputs so far
abbrev pub invariant-loop-input : goal.invariant-loop-input
invariant-loop-input l = l.sources.items ≡ map (λ input. (input.source_window, input.source_iteration)) (take l.input-index l.inputs)
