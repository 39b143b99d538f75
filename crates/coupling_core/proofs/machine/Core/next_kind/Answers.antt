use Rattle.std.proofs.Common.{ap, sym, subst, arith, length, ◌∙◌}
use Rattle.cpl_plan.proofs.Readings.{there}
use Rattle.coupling_core.specs.KeptView.{kept_view}
use Rattle.coupling_core.specs.StandsFor.{StandsFor}
use Rattle.coupling_core.proofs.PlacedPuts.{as_standing}
use Rattle.coupling_core.proofs.Inside.{part_there, standing_there}
use Rattle.core_sides.specs.Answers.{next_kind_in}
use Rattle.core_sides.proofs.Telling.{next_kind_is}
use Rattle.coupling_core.proofs.machine.Core.next_kind.Goals as goal

pub next_kind-requires : goal.next_kind-requires
next_kind-requires c = standing_there (kept_view c.self.inside) c.self.invariant c.args.p (part_there c.args.self.now (kept_view c.self.inside) c.self.view_is c.args.p c.requires.participant)

pub returns : goal.returns
returns c = record {
  state = λ h sides stands.
      let own = subst (λ core. StandsFor core h sides) (sym c.self.view_is) stands in
      let are = as_standing c.self.inside.plan c.self.inside.sides sides own.sides in
      let here = there c.self.inside.sides.standings.items c.args.p (standing_there (kept_view c.self.inside) c.self.invariant c.args.p (part_there c.args.self.now (kept_view c.self.inside) c.self.view_is c.args.p c.requires.participant)) in
      c.next_kind.ensures here.0 here.1 ∙ next_kind_is c.self.inside.plan c.self.inside.sides sides are c.args.p here.0 here.1
      ∙ ap (λ core. next_kind_in core.plan sides c.args.p) c.self.view_is;
}
