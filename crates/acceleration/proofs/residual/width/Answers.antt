use Rattle.std.proofs.Common.{◌-◌, ◌∙◌, List, ℕ, ℤ, length, sym, ap}
use Rattle.acceleration.proofs.Widths.{end_values-last}
use Rattle.acceleration.proofs.residual.width.Goals as goal

pub returns : goal.returns
returns c =
    c.len-2.ensures
    ∙ ap (λ (values : List ℤ). length values)
    (sym (end_values-last c.args.wave.now (c.len.result - 1) c.field.result.now (ap (λ (n : ℕ). n - 1) c.len.ensures.count) c.field.ensures))
