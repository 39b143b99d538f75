use Rattle.std.proofs.Common.{sym, subst}
use Rattle.participant_words.specs.Course.{Course}
use Rattle.participant_words.specs.Replies.{MayAnswer}
use Rattle.core_sides.specs.declared.event.Reply.TheVariants.{Inputs}
use Rattle.call_parts.proofs.fitting.may_be_inputs.Goals as goal

pub returns-in-Take : goal.returns-in-Take
returns-in-Take c = λ yes course at. subst (λ kind. MayAnswer c.args.plan.now c.args.part course kind (Inputs c.args.inputs.now)) (sym c.in-Take.is) (c.are_inputs.ensures yes course at)
