use Rattle.config_laws.proofs.WholeFacts.{end, meshes, participants, received_meshes, written_data, read_data, maps, watches, actions, schemes, exchanges, measures, accelerations}
use Rattle.config_laws.proofs.WindowFacts.{windows}
use Rattle.config_laws.proofs.accepted.an_accepted_configuration_fits_together.Goals as goal

pub returns : goal.returns
returns c = record {
  end = end;
  meshes = meshes;
  participants = participants;
  received = received_meshes;
  written = written_data;
  read = read_data;
  mapped = maps;
  watched = watches;
  acted = actions;
  schemes = schemes;
  exchanged = exchanges;
  measured = measures;
  accelerated = accelerations;
  windows = windows;
}
