use Rattle.core_sides.proofs.Telling.{next_kind_is, ending_is, window_end_is}
use Rattle.core_sides.proofs.KeptTells.{turn_is}
use Rattle.core_sides.proofs.laws.what_is_kept_answers_as_the_state.Goals as goal

pub returns : goal.returns
returns c = record {
  next_kind = λ plan kept sides p standing are at. next_kind_is plan kept sides are p standing at;
  ending = λ plan kept sides p standing are at. ending_is plan kept sides are p standing at;
  position = λ plan kept sides p are. turn_is plan kept sides are p;
  window_end = λ plan kept sides w are some. window_end_is plan kept sides are w some;
}
