use Rattle.std.proofs.Common.{refl, ap, sym, subst, ◌∙◌}
use Rattle.coupled_loop.specs.CoreStep.{is_cut}
use Rattle.coupling_core.specs.KeptView.{kept_view}
use Rattle.coupling_core.proofs.Inside.{may_now, granted_now, part_now, standing_now, here_now, answers_core, makes_core, kept_after}
use Rattle.coupling_core.specs.Gated.{gate_in}
use Rattle.coupling_core.specs.StandsFor.{StandsFor}
use Rattle.coupling_core.proofs.Gates.{gate_is}
use Rattle.coupling_core.proofs.PlacedPuts.{as_standing}
use Rattle.coupling_core.proofs.machine.Core.gate.Goals as goal

pub gate_of-requires : goal.gate_of-requires
gate_of-requires c = record {
  standing = standing_now c.args.self.now (kept_view c.self.inside) c.self.view_is c.self.invariant c.args.p is_cut c.requires;
  participant = part_now c.args.self.now (kept_view c.self.inside) c.self.view_is c.self.invariant c.args.p is_cut c.requires;
}

pub returns : goal.returns
returns c = λ h sides stands.
    let own = subst (λ core. StandsFor core h sides) (sym c.self.view_is) stands in
    let here = here_now c.args.self.now (kept_view c.self.inside) c.self.view_is c.self.invariant c.args.p is_cut c.requires in
    c.gate_of.ensures here.0 here.1
    ∙ gate_is c.self.inside.plan c.self.inside.sides h sides c.args.p here.0 c.self.invariant.valid own.reached (as_standing c.self.inside.plan c.self.inside.sides sides own.sides)
    (part_now c.args.self.now (kept_view c.self.inside) c.self.view_is c.self.invariant c.args.p is_cut c.requires) here.1
    ∙ ap (λ core. gate_in core.plan sides c.args.p) c.self.view_is
