use Rattle.std.proofs.Common.{sym, subst}
use Rattle.participant_words.specs.Replies.{MayFault}
use Rattle.call_parts.proofs.fitting.may_fault.Goals as goal

pub returns-in-Relax : goal.returns-in-Relax
returns-in-Relax c = λ yes course window iteration.
    subst (MayFault c.args.plan.now c.args.part course) (sym c.in-Relax.is) (c.is_of_turn.ensures yes course window iteration)

pub returns-in-NotConverged : goal.returns-in-NotConverged
returns-in-NotConverged c = λ yes course window iteration.
    subst (MayFault c.args.plan.now c.args.part course) (sym c.in-NotConverged.is) (c.is_of_turn-in-NotConverged.ensures yes course window iteration)
