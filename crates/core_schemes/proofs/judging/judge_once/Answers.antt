use Rattle.core_schemes.proofs.JudgedNow.{told_again}
use Rattle.core_schemes.proofs.judging.judge_once.Goals as goal

pub returns-in-Some-clause-judgement : goal.returns-in-Some-clause-judgement
returns-in-Some-clause-judgement c = λ sides may.
    told_again c.args.plan.now c.parts-valid.ensures.valid c.args.stores.now c.args.state.now c.args.at sides may c.in-Some.last c.in-Some.ensures.same c.in-Some.ensures.this
