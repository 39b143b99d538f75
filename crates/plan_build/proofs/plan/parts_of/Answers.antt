use Rattle.std.proofs.Common.{sym, subst}
use Rattle.config_rules.specs.ConfigRules.{IsAccepted}
use Rattle.config_laws.specs.FitNumbers.{HasTime}
use Rattle.config_laws.proofs.NumberFacts.{time}
use Rattle.plan_build.proofs.PlanMade.{is_plan}
use Rattle.plan_build.proofs.plan.parts_of.Goals as goal

pub nodes_of-requires : goal.nodes_of-requires
nodes_of-requires c = subst IsAccepted (sym c.in_ok-numbered.ensures) c.requires.accepted

pub parts_with-requires : goal.parts_with-requires
parts_with-requires c = subst HasTime (sym c.in_ok-numbered.ensures) (time c.args.config.now c.requires.sound c.requires.accepted)

pub returns : goal.returns
returns c = is_plan c.args.config.now c.in_ok-numbered.numbered c.in_ok-nodes.nodes.items c.in_ok-parts.parts c.in_ok-numbered.ensures c.in_ok-parts.ensures c.in_ok-nodes.ensures
