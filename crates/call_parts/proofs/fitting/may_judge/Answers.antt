use Rattle.std.proofs.Common.{ℕ, ◌<◌, sym, subst}
use Rattle.std.specs.Option.{option_map_or}
use Rattle.coupled_loop.specs.PlanFrames.{group_of, iterations_of}
use Rattle.participant_words.specs.Replies.{MayJudge}
use Rattle.call_parts.proofs.fitting.may_judge.Goals as goal

pub returns-in-Again : goal.returns-in-Again
returns-in-Again c = λ yes course same.
    subst (MayJudge c.args.plan.now c.args.part course) (sym c.in-Again.is)
    (subst (λ (k : ℕ). k < option_map_or (iterations_of c.args.plan.now) (group_of c.args.plan.now c.args.part) 0) (sym same) (c.may_repeat.ensures yes))
