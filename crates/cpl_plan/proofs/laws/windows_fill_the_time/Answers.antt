use Rattle.std.proofs.Common.{◌≡◌, true, sym, subst}
use Rattle.cpl_plan.specs.Windows.{is_last_window}
use Rattle.cpl_plan.proofs.FixedWindows.{first_start, fixed_count, window_number, window_told, joins, fills, ends_late, last_is, is_last}
use Rattle.cpl_plan.proofs.laws.windows_fill_the_time.Goals as goal

pub returns-clause-there : goal.returns-clause-there
returns-clause-there c = λ plan ends w valid fixed. (
  window_number plan ends w,
  λ within. window_told plan fixed valid.sizes.window.0 (fixed_count plan valid fixed) ends w within.0 within.1,
)

pub returns-clause-first : goal.returns-clause-first
returns-clause-first c = λ plan ends. first_start plan.method plan.window ends

pub returns-clause-joined : goal.returns-clause-joined
returns-clause-joined c = λ plan ends w valid fixed one less. joins plan fixed valid.sizes.window.0 (fixed_count plan valid fixed) ends w one less

pub returns-clause-ended : goal.returns-clause-ended
returns-clause-ended c = λ plan ends valid fixed. fills plan fixed valid.sizes.window.0 (fixed_count plan valid fixed) ends valid.sizes.windows.0

pub returns-clause-some_time : goal.returns-clause-some_time
returns-clause-some_time c = λ plan ends w start end valid fixed there starts ended.
    ends_late plan fixed valid.sizes.window.0 (fixed_count plan valid fixed) ends w start end starts ended there

pub returns-clause-last : goal.returns-clause-last
returns-clause-last c = λ plan ends w valid fixed. (
  last_is plan fixed valid.sizes.window.0 (fixed_count plan valid fixed) ends w,
  λ same. subst (λ v. is_last_window plan ends v ≡ true) (sym same)
      (is_last plan fixed valid.sizes.window.0 (fixed_count plan valid fixed) ends valid.sizes.windows.0),
)
