use Rattle.std.proofs.Common.{◌≡◌, ◌++◌, ◌∷◌, take}
use Rattle.std.specs.List.{flat_map}
use Rattle.line_text.specs.Printing.{value_text}
use Rattle.watch_log.proofs.watches.push_after_commas.Given as goal

abbrev pub invariant-loop-component : goal.invariant-loop-component
invariant-loop-component l = l.text.items ≡ l.fn.text.items ++ flat_map (λ next. 44 ∷ value_text next) (take l.component-index l.components)
