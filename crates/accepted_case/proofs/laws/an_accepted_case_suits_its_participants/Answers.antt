use Rattle.case_rules.proofs.AcceptedCases.{accepted_suited, few_vertices}
use Rattle.accepted_case.proofs.laws.an_accepted_case_suits_its_participants.Goals as goal

pub returns : goal.returns
returns c = record {
  suited = λ accepted is. accepted_suited accepted.config accepted.cases is.one_each is.sound_cases is.kept_by_cases;
  vertices = λ accepted is. few_vertices accepted.config accepted.cases is.one_each is.sound_cases is.kept_by_cases;
}
