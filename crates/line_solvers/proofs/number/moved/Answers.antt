use Rattle.std.proofs.Common.{◌≡◌, ◌*ℤ◌, ℤ, pos, ◌+ℤ◌, ap, ◌∙◌}
use mir.Syntax.{w64, w128}
use mir.Val.{SFits, to_z, of_z}
use Rattle.std.proofs.lemmas.Int.{to_z-of_z}
use Rattle.line_solvers.specs.Moved.{moved}
use Rattle.line_solvers.proofs.Moves.{product_back, moved_back, no_value, moved-fits}
use Rattle.line_solvers.proofs.number.moved.Goals as goal

-- the change, where it fits
change_fits : (c : goal.After-quot_even) → SFits w128 (pos c.args.ticks *ℤ c.args.slope)
change_fits c = rw (product_back c.from.result c.args.slope (record { sfits = c.from.type_inv }) c.from.ensures c.ranges.slope) at c.in-Some.ensures.0

pub overflow_add-from : goal.overflow_add-from
overflow_add-from c =
    let product = product_back c.from.result c.args.slope (record { sfits = c.from.type_inv }) c.from.ensures c.ranges.slope in
    let from = c.from-in-Some.ensures ∙ to_z-of_z w64 c.args.from c.ranges.from in
    let change = change_fits c in
    let sum = moved_back c.from-in-Some.result c.in-Some.change c.quot_even.result (record { sfits = c.from-in-Some.type_inv }) from change (c.in-Some.ensures.1 ∙ product) (record { sfits = c.quot_even.type_inv }) c.quot_even.ensures.value in
    rw sum (moved-fits c.args.from (pos c.args.ticks *ℤ c.args.slope) c.requires change)

-- the sum as `value_of` takes it
moved_is : (c : goal.After-value_of) → to_z w128 (of_z w128 (to_z w128 (of_z w128 c.from-in-Some.result) +ℤ to_z w128 (of_z w128 c.quot_even.result))) ≡ moved c.args.from c.args.slope c.args.ticks
moved_is c =
    let product = product_back c.from.result c.args.slope (record { sfits = c.from.type_inv }) c.from.ensures c.ranges.slope in
    let from = c.from-in-Some.ensures ∙ to_z-of_z w64 c.args.from c.ranges.from in
    let change : SFits w128 (pos c.args.ticks *ℤ c.args.slope) = rw product at c.in-Some.ensures.0 in
    let sum = moved_back c.from-in-Some.result c.in-Some.change c.quot_even.result (record { sfits = c.from-in-Some.type_inv }) from change (c.in-Some.ensures.1 ∙ product) (record { sfits = c.quot_even.type_inv }) c.quot_even.ensures.value in
    ap (λ (x : ℤ). to_z w128 (of_z w128 x)) sum ∙ to_z-of_z w128 (moved c.args.from c.args.slope c.args.ticks) (moved-fits c.args.from (pos c.args.ticks *ℤ c.args.slope) c.requires change)

pub returns-in-Some-clause-in_range : goal.returns-in-Some-clause-in_range
returns-in-Some-clause-in_range c = rw (moved_is c) at c.value_of.ensures.in_range

pub returns-in-Some-clause-same : goal.returns-in-Some-clause-same
returns-in-Some-clause-same c = rw (moved_is c) at c.value_of.ensures.same

pub returns-in-None-clause-in_range : goal.returns-in-None-clause-in_range
returns-in-None-clause-in_range c =
    let product = product_back c.from.result c.args.slope (record { sfits = c.from.type_inv }) c.from.ensures c.ranges.slope in (
      λ no_some. absurd (cc),
      λ value. absurd (no_value c.args.from (pos c.args.ticks *ℤ c.args.slope) c.requires (λ fits. c.in-None.ensures (rw product fits)) value),
    )
