use Rattle.std.proofs.Common.{sym, subst}
use Rattle.participant_words.specs.Replies.{MayAnswer}
use Rattle.core_sides.specs.declared.event.Reply.TheVariants.{Faulted}
use Rattle.call_parts.proofs.fitting.may_be_faulted.Goals as goal

pub returns-in-Judge : goal.returns-in-Judge
returns-in-Judge c = λ yes course window iteration. subst (λ kind. MayAnswer c.args.plan.now c.args.part course kind (Faulted c.args.fault)) (sym c.in-Judge.is) (c.may_fault.ensures yes course window iteration)
