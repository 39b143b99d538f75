use Rattle.participant_waves.proofs.CanBeSent.{all_can_send, all_can_send_initial}
use Rattle.participant_waves.proofs.laws.what_is_written_can_be_sent.Goals as goal

pub returns : goal.returns
returns c = record { turn = all_can_send; initial = all_can_send_initial }
