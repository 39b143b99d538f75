use Rattle.std.proofs.Common.{refl, ap, ◌∙◌}
use Rattle.coupled_loop.specs.CoreStep.{sends_meshes}
use Rattle.coupling_core.specs.KeptView.{kept_view}
use Rattle.coupling_core.proofs.Inside.{may_now, granted_now, part_now, standing_now, here_now, answers_core, makes_core, kept_after}
use Rattle.coupling_core.proofs.TurnEvents.{send_answers, send_makes}
use Rattle.coupling_core.proofs.machine.Core.send.Goals as goal

pub send-requires : goal.send-requires
send-requires c = standing_now c.args.self.now (kept_view c.self.inside) c.self.view_is c.self.invariant c.args.p (sends_meshes c.args.meshes) c.requires

pub invariant_of-self : goal.invariant_of-self
invariant_of-self c =
    let now = kept_view c.self.inside in
    let may = may_now c.args.self.now (kept_view c.self.inside) c.self.view_is c.self.invariant c.args.p (sends_meshes c.args.meshes) c.requires in
    let here = here_now c.args.self.now (kept_view c.self.inside) c.self.view_is c.self.invariant c.args.p (sends_meshes c.args.meshes) c.requires in
    kept_after c.args.self.now (kept_view c.self.inside) c.self.view_is c.self.invariant c.args.p (sends_meshes c.args.meshes) _ refl
    (send_makes now c.self.invariant.valid c.args.p here.0 here.1 _ _ c.args.meshes may (c.send.ensures.standings here.0 here.1, ap (λ ends. ends.items) c.send.ensures.ends))

pub returns : goal.returns
returns c =
    let now = kept_view c.self.inside in
    let may = may_now c.args.self.now (kept_view c.self.inside) c.self.view_is c.self.invariant c.args.p (sends_meshes c.args.meshes) c.requires in
    let here = here_now c.args.self.now (kept_view c.self.inside) c.self.view_is c.self.invariant c.args.p (sends_meshes c.args.meshes) c.requires in
    record {
      reply = answers_core c.args.self.now (kept_view c.self.inside) c.self.view_is c.self.invariant c.args.p (sends_meshes c.args.meshes) _ (send_answers now c.self.invariant.valid c.args.p here.0 here.1 c.args.meshes may);
      stands = makes_core c.args.self.now (kept_view c.self.inside) c.self.view_is c.self.invariant c.args.p (sends_meshes c.args.meshes) _
          (send_makes now c.self.invariant.valid c.args.p here.0 here.1 _ _ c.args.meshes may (c.send.ensures.standings here.0 here.1, ap (λ ends. ends.items) c.send.ensures.ends));
      plan = ap (λ core. core.plan) c.self.view_is;
    }
