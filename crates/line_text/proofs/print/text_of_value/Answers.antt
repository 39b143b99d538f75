use Rattle.std.proofs.Common.{◌≡◌, ap, sym, ◌∙◌, to_z, of_z, unsigned_abs, pos}
use Rattle.std.proofs.lemmas.Int.{to_z-of_z}
use Rattle.std.specs.Int.{w128}
use Rattle.std.specs.Int.Signed.{lt_z}
use Rattle.line_text.proofs.print.text_of_value.Goals as goal
use Rattle.line_text.proofs.print.text_of_value.Goals.{then-units-lt0, else-units-lt0}
use Rattle.line_text.proofs.Printed.{negative_text, positive_text}

pub returns : goal.returns
returns c =
    let units : to_z w128 (of_z w128 c.args.units) ≡ c.args.units = to_z-of_z w128 c.args.units c.ranges.units in
    let size : c.unsigned_abs-magnitude.result ≡ unsigned_abs c.args.units = c.unsigned_abs-magnitude.ensures.value ∙ ap unsigned_abs units in
    elim c.if-units-lt0.branch [
      | then-units-lt0 w ↦
          negative_text c.args.units c.unsigned_abs-magnitude.result c.if-units-lt0.sign.now _ _
          (ap (λ z. lt_z z (pos 0)) (sym units) ∙ w.if-units-lt0.true) size (ap (λ x. x.now) w.sign-is) c.in_ok-text.ensures.ok c.in_ok-push_rest.ensures
      | else-units-lt0 w ↦
          positive_text c.args.units c.unsigned_abs-magnitude.result c.if-units-lt0.sign.now _ _
          (ap (λ z. lt_z z (pos 0)) (sym units) ∙ w.if-units-lt0.false) size (ap (λ x. x.now) w.sign-is) c.in_ok-text.ensures.ok c.in_ok-push_rest.ensures
    ]
