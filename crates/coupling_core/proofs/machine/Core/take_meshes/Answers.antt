use Rattle.std.proofs.Common.{sym, subst, Ok}
use Rattle.coupled_loop.specs.CoreStep.{takes_meshes}
use Rattle.core_sides.specs.declared.event.Reply.{Reply}
use Rattle.coupling_core.specs.OneMore.{Answers}
use Rattle.coupling_core.proofs.Gates.{asks_meshes, waits_answers, cut_answers_it, cut_makes_it}
use Rattle.coupling_core.proofs.machine.Core.take_meshes.Goals as goal

pub returns-in-Cut-clause-reply : goal.returns-in-Cut-clause-reply
returns-in-Cut-clause-reply c =
    subst (λ (r : Reply). Answers c.args.self.now c.args.p takes_meshes (Ok r)) (sym c.cut.ensures.reply) (cut_answers_it c.args.self.now c.args.p takes_meshes c.requires (λ sides running fits. asks_meshes c.args.self.now.plan sides c.args.p running (sides c.args.p).place fits) c.gate.result c.gate.ensures c.in-Cut.who c.in-Cut.is)

pub returns-in-Cut-clause-stands : goal.returns-in-Cut-clause-stands
returns-in-Cut-clause-stands c = cut_makes_it c.args.self.now c.args.p takes_meshes c.requires (λ sides running fits. asks_meshes c.args.self.now.plan sides c.args.p running (sides c.args.p).place fits) c.gate.result c.gate.ensures _ c.in-Cut.who c.in-Cut.is c.cut.ensures.stands

pub returns-in-Waits-clause-not_enabled : goal.returns-in-Waits-clause-not_enabled
returns-in-Waits-clause-not_enabled c = waits_answers c.args.self.now c.args.p takes_meshes c.requires (λ sides running fits. asks_meshes c.args.self.now.plan sides c.args.p running (sides c.args.p).place fits) c.gate.result c.gate.ensures c.in-Waits.owner c.in-Waits.window c.in-Waits.iteration c.in-Waits.is
