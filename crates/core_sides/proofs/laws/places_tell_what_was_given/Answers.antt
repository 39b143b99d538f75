use Rattle.core_sides.proofs.AsksTell.{search_is}
use Rattle.core_sides.proofs.Histories.{reached_told}
use Rattle.core_sides.proofs.Telling.{enabled_is}
use Rattle.core_sides.proofs.laws.places_tell_what_was_given.Goals as goal

pub returns : goal.returns
returns c = record {
  search = λ plan kept history sides p standing valid settled reached are below at.
      search_is plan kept sides are valid (reached_told plan history sides valid settled reached) p standing.place below (are.each p standing at).place;
  enabled = λ plan kept history sides p standing valid settled reached are below at.
      enabled_is plan kept sides are p standing at valid (reached_told plan history sides valid settled reached) below;
}
