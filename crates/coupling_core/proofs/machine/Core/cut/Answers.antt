use Rattle.std.proofs.Common.{◌≡◌, Some, refl, ap, sym, subst, ◌∙◌}
use Rattle.coupled_loop.specs.CoreStep.{is_cut, cut_by}
use Rattle.wave_coupling.specs.Coupling.{wave_frame}
use Rattle.coupling_core.specs.KeptView.{kept_view}
use Rattle.coupling_core.proofs.Inside.{may_now, granted_now, part_now, standing_now, here_now, answers_core, makes_core, kept_after}
use Rattle.coupling_core.specs.StandsFor.{StandsFor}
use Rattle.coupling_core.proofs.TurnEvents.{cut_stands}
use Rattle.coupling_core.proofs.Inside.{stands_now, kept_so}
use Rattle.coupling_core.proofs.machine.Core.cut.Goals as goal

pub end-requires : goal.end-requires
end-requires c = standing_now c.args.self.now (kept_view c.self.inside) c.self.view_is c.self.invariant c.args.p is_cut c.requires.running

pub invariant_of-self : goal.invariant_of-self
invariant_of-self c =
    let now = kept_view c.self.inside in
    let may = may_now c.args.self.now (kept_view c.self.inside) c.self.view_is c.self.invariant c.args.p is_cut c.requires.running in
    let here = here_now c.args.self.now (kept_view c.self.inside) c.self.view_is c.self.invariant c.args.p is_cut c.requires.running in
    let found = c.requires.cut c.self.invariant.history c.self.invariant.state (stands_now c.args.self.now now c.self.view_is c.self.invariant c.self.invariant.history c.self.invariant.state c.self.invariant.stands) in
    kept_so c.args.self.now now c.self.view_is c.self.invariant _ refl _ _
    (cut_stands now c.self.invariant.valid c.args.p here.0 here.1 _ _ c.args.who may (c.end.ensures.standings here.0 here.1, ap (λ ends. ends.items) c.end.ensures.ends)
    c.self.invariant.history c.self.invariant.state c.self.invariant.stands
    (ap (λ core. cut_by (wave_frame core.plan) c.self.invariant.state c.args.p) c.self.view_is ∙ found))

pub returns : goal.returns
returns c =
    let now = kept_view c.self.inside in
    let may = may_now c.args.self.now (kept_view c.self.inside) c.self.view_is c.self.invariant c.args.p is_cut c.requires.running in
    let here = here_now c.args.self.now (kept_view c.self.inside) c.self.view_is c.self.invariant c.args.p is_cut c.requires.running in
    record {
      reply = refl;
      stands = λ h sides stands.
          cut_stands now c.self.invariant.valid c.args.p here.0 here.1 _ _ c.args.who may (c.end.ensures.standings here.0 here.1, ap (λ ends. ends.items) c.end.ensures.ends) h sides
          (subst (λ core. StandsFor core h sides) (sym c.self.view_is) stands)
          (ap (λ core. cut_by (wave_frame core.plan) sides c.args.p) c.self.view_is ∙ c.requires.cut h sides stands);
      plan = ap (λ core. core.plan) c.self.view_is;
    }
