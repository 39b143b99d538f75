use Rattle.case_rules.proofs.AcceptedCases.{suited_accepted}
use Rattle.case_rules.proofs.laws.what_suits_its_participant_is_accepted.Goals as goal

pub returns : goal.returns
returns c = suited_accepted
