use Rattle.config_laws.proofs.OnceFacts.{received_once, read_once, mapped_once, targets_once, listed_once, met_once, grouped_once}
use Rattle.config_laws.proofs.WholeFacts.{schemes}
use Rattle.config_laws.proofs.WrittenNames.{written_once}
use Rattle.config_laws.proofs.accepted.nothing_is_told_twice.Goals as goal

pub returns : goal.returns
returns c = record {
  received = received_once;
  read = read_once;
  written = written_once;
  mapped = mapped_once;
  targets = targets_once;
  listed = listed_once;
  met = met_once;
  grouped = λ config accepted. grouped_once config (schemes config accepted);
}
