use Rattle.case_rules.proofs.AcceptedCases.{accepted_suited, few_vertices}
use Rattle.case_rules.proofs.laws.accepted_cases_suit_their_participants.Goals as goal

pub returns : goal.returns
returns c = record { suited = accepted_suited; vertices = few_vertices }
