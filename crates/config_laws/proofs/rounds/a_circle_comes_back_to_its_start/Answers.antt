use Rattle.config_laws.proofs.WalksRound.{circle_found, circle_meant}
use Rattle.config_laws.proofs.rounds.a_circle_comes_back_to_its_start.Goals as goal

pub returns : goal.returns
returns c = record { circle_found = circle_found; circle_meant = circle_meant }
