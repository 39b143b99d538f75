use Rattle.core_fits.proofs.ReachedFits.{reached_fits}
use Rattle.core_fits.proofs.Turns.{reached_in_order}
use Rattle.core_fits.proofs.laws.what_is_given_fits.Goals as goal

pub returns : goal.returns
returns c = record {
  fits = λ plan history sides valid reached. reached_fits plan valid history sides reached;
  in_order = λ plan history sides valid reached. reached_in_order plan valid history sides reached;
}
