use Rattle.std.proofs.Common.{◌≡◌, ◌++◌, take, pos}
use Rattle.std.specs.List.{flat_map}
use Rattle.watch_log.specs.Words.{value_part}
use Rattle.watch_log.proofs.words.push_norms.Given as goal

abbrev pub invariant-loop-norm : goal.invariant-loop-norm
invariant-loop-norm l = l.text.items ≡ l.fn.text.items ++ flat_map (λ norm. value_part (pos norm)) (take l.norm-index l.norms)
