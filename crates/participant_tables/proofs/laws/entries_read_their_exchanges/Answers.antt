use Rattle.participant_tables.proofs.Serving.{served-within, served-input, degree-few}
use Rattle.participant_tables.proofs.laws.entries_read_their_exchanges.Goals as goal

pub returns : goal.returns
returns c = record {
  within = λ plan part entry valid inside. served-within plan valid part entry inside;
  input = λ plan part entry inputs valid inside alike. served-input plan valid part entry inputs inside alike;
  degree = λ plan part entry valid. degree-few plan valid part entry;
}
