use Rattle.std.proofs.Common.{arith}
use Rattle.cpl_plan.proofs.MadeWindows.{made_there, made_end, made_joins, made_late, made_in_time, ends_rise, starts_rise}
use Rattle.cpl_plan.proofs.laws.first_steps_make_windows.Goals as goal

pub returns-clause-there : goal.returns-clause-there
returns-clause-there c = λ plan ends w method made one within. made_there plan method ends made w one within

pub returns-clause-ended : goal.returns-clause-ended
returns-clause-ended c = λ plan ends w method made one within. made_end plan method ends made w one within

pub returns-clause-joined : goal.returns-clause-joined
returns-clause-joined c = λ plan ends w end method ended. made_joins plan method ends w end ended

pub returns-clause-some_time : goal.returns-clause-some_time
returns-clause-some_time c = λ plan ends w start end method made starts ended. (made_late plan method ends made w start end starts ended).0

pub returns-clause-short : goal.returns-clause-short
returns-clause-short c = λ plan ends w start end method made starts ended. let late = (made_late plan method ends made w start end starts ended).1 in omega (arith, late)

pub returns-clause-in_time : goal.returns-clause-in_time
returns-clause-in_time c = λ plan ends w end method made ended. made_in_time plan method ends made w end ended

pub returns-clause-ends_rise : goal.returns-clause-ends_rise
returns-clause-ends_rise c = λ plan ends v w one other method made less first second. ends_rise plan method ends made v w one other less first second

pub returns-clause-starts_rise : goal.returns-clause-starts_rise
returns-clause-starts_rise c = λ plan ends v w one other method made less first second. starts_rise plan method ends made v w one other less first second
