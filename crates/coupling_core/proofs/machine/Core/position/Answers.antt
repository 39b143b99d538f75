use Rattle.std.proofs.Common.{ap, sym, subst, arith, length, ◌∙◌}
use Rattle.cpl_plan.proofs.Readings.{there}
use Rattle.coupling_core.specs.KeptView.{kept_view}
use Rattle.coupling_core.specs.StandsFor.{StandsFor}
use Rattle.coupling_core.proofs.PlacedPuts.{as_standing}
use Rattle.core_sides.specs.Answers.{position_in}
use Rattle.core_sides.proofs.KeptTells.{turn_is}
use Rattle.coupling_core.proofs.machine.Core.position.Goals as goal

pub returns : goal.returns
returns c = record {
  state = λ h sides stands.
      let own = subst (λ core. StandsFor core h sides) (sym c.self.view_is) stands in
      let are = as_standing c.self.inside.plan c.self.inside.sides sides own.sides in
      c.turn.ensures ∙ turn_is c.self.inside.plan c.self.inside.sides sides are c.args.p ∙ ap (λ core. position_in core.plan sides c.args.p) c.self.view_is;
}
