use Rattle.std.proofs.Common.{sym, subst}
use Rattle.participant_words.specs.Replies.{MayAnswer}
use Rattle.core_sides.specs.declared.event.Reply.TheVariants.{Judged}
use Rattle.call_parts.proofs.fitting.may_be_judged.Goals as goal

pub returns-in-Judge : goal.returns-in-Judge
returns-in-Judge c = λ yes course same. subst (λ kind. MayAnswer c.args.plan.now c.args.part course kind (Judged c.args.verdict)) (sym c.in-Judge.is) (c.may_judge.ensures yes course same)
