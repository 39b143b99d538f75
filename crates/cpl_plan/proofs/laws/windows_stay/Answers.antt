use Rattle.cpl_plan.proofs.MadeWindows.{none_made, more_made, starts_stay, windows_stay, ends_stay}
use Rattle.cpl_plan.proofs.laws.windows_stay.Goals as goal

pub returns-clause-none : goal.returns-clause-none
returns-clause-none c = λ plan. none_made plan

pub returns-clause-more : goal.returns-clause-more
returns-clause-more c = λ plan ends end made may. more_made plan ends end made may

pub returns-clause-starts : goal.returns-clause-starts
returns-clause-starts c = λ plan ends more w within. starts_stay plan ends more w within

pub returns-clause-there : goal.returns-clause-there
returns-clause-there c = λ plan ends more w within. windows_stay plan ends more w within

pub returns-clause-ends : goal.returns-clause-ends
returns-clause-ends c = λ plan ends more w one within. ends_stay plan ends more w one within
