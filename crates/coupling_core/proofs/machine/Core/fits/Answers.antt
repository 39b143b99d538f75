use Rattle.std.proofs.Common.{sym, subst}
use Rattle.coupling_core.specs.KeptView.{kept_view}
use Rattle.coupling_core.specs.StandsFor.{StandsFor}
use Rattle.coupling_core.proofs.PlacedPuts.{as_standing}
use Rattle.coupling_core.proofs.Inside.{part_there}
use Rattle.core_sides.specs.Answers.{act_of}
use Rattle.core_sides.specs.Fitting.{IsFitting}
use Rattle.coupling_core.proofs.machine.Core.fits.Goals as goal

pub fits-requires : goal.fits-requires
fits-requires c = record { participant = part_there c.args.self.now (kept_view c.self.inside) c.self.view_is c.args.p c.requires.participant }

pub returns : goal.returns
returns c = record {
  fitting = λ yes h sides stands.
      let own = subst (λ core. StandsFor core h sides) (sym c.self.view_is) stands in
      let are = as_standing c.self.inside.plan c.self.inside.sides sides own.sides in
      subst (λ core. IsFitting core.plan sides c.args.p (act_of c.args.event.now)) c.self.view_is (c.fits.ensures yes sides are);
}
