use Rattle.std.proofs.Common.{sym, ◌∙◌}
use Rattle.line_text.proofs.Meanings.{answer_empty, answer_digit, answer_value, parts_are}
use Rattle.line_text.proofs.read.answer_to.Goals as goal

pub returns-then-is_empty : goal.returns-then-is_empty
returns-then-is_empty c = answer_empty c.args.text.now (sym c.is_empty.ensures ∙ c.if-is_empty.true)

pub returns-then-not-is_number : goal.returns-then-not-is_number
returns-then-not-is_number c =
    answer_digit c.args.text.now _
    (parts_are c.args.text.now _ _ _ _ c.without_minus-is_negative.ensures.minus c.without_minus-is_negative.ensures.rest c.split_at_point.ensures.whole c.split_at_point.ensures.decimals)
    (sym c.is_empty.ensures ∙ c.if-is_empty.false) (sym c.is_number.ensures ∙ c.if-not-is_number.true)

pub returns : goal.returns
returns c =
    answer_value c.args.text.now _ _
    (parts_are c.args.text.now _ _ _ _ c.without_minus-is_negative.ensures.minus c.without_minus-is_negative.ensures.rest c.split_at_point.ensures.whole c.split_at_point.ensures.decimals)
    (sym c.is_number.ensures ∙ c.if-not-is_number.false) c.value_of.ensures
