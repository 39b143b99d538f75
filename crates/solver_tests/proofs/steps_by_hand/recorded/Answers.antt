use Rattle.std.proofs.Common.{rules}
use Rattle.solver_tests.proofs.steps_by_hand.recorded.Goals as goal

pub from_case-requires : goal.from_case-requires
from_case-requires c = record {
  a_tick = search rules;
  step_limit = search rules;
  one_state = search rules;
  not_empty = search rules;
  not_long = search rules;
  values = search rules;
  fill = search rules;
  count = search rules;
  forbid = search rules;
  out_listed = search rules;
  out_range = search rules;
  out_length = search rules;
  kind = record {
    has_records = search rules;
    few = search rules;
    records = search rules;
    a_value_each = search rules;
    whole = search rules;
    no_more = search rules;
    nothing_listed = search rules;
  };
}
