use Rattle.participant_tables.proofs.read_table.opening_entry.Goals as goal

pub returns : goal.returns
returns c = λ i. record {
  data_id = c.args.entry.data_id;
  mesh = c.place_of.ensures i;
  components = c.components_of.ensures i;
  degree = c.degree_of.ensures c.args.part i;
  received = c.served_from.ensures i;
}
