use Rattle.plan_laws.proofs.Accepted.{is_sound, is_accepted}
use Rattle.plan_laws.proofs.PlanBack.{is_plan_of}
use Rattle.plan_laws.proofs.converse.every_valid_plan_is_of_an_accepted_configuration.Goals as goal

pub returns : goal.returns
returns c = record { sound = is_sound; accepted = is_accepted; plan = is_plan_of }
