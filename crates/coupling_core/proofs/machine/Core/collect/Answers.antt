use Rattle.std.proofs.Common.{refl, ap, ◌∙◌}
use Rattle.coupled_loop.specs.CoreStep.{takes_meshes}
use Rattle.coupling_core.specs.KeptView.{kept_view}
use Rattle.coupling_core.proofs.Inside.{may_now, granted_now, part_now, standing_now, here_now, answers_core, makes_core, kept_after}
use Rattle.coupling_core.proofs.PlacedPuts.{as_standing}
use Rattle.coupling_core.proofs.TurnEvents.{meshes_answers, meshes_makes}
use Rattle.coupling_core.proofs.machine.Core.collect.Goals as goal

pub received_meshes-requires : goal.received_meshes-requires
received_meshes-requires c = record { participant = part_now c.args.self.now (kept_view c.self.inside) c.self.view_is c.self.invariant c.args.p takes_meshes c.requires.fitting }

pub go_to-requires : goal.go_to-requires
go_to-requires c = standing_now c.args.self.now (kept_view c.self.inside) c.self.view_is c.self.invariant c.args.p takes_meshes c.requires.fitting

pub invariant_of-self : goal.invariant_of-self
invariant_of-self c =
    let now = kept_view c.self.inside in
    let may = may_now c.args.self.now (kept_view c.self.inside) c.self.view_is c.self.invariant c.args.p takes_meshes c.requires.fitting in
    let granted = granted_now c.args.self.now (kept_view c.self.inside) c.self.view_is c.self.invariant c.args.p takes_meshes c.requires.granted in
    let here = here_now c.args.self.now (kept_view c.self.inside) c.self.view_is c.self.invariant c.args.p takes_meshes c.requires.fitting in
    kept_after c.args.self.now (kept_view c.self.inside) c.self.view_is c.self.invariant c.args.p takes_meshes _ refl
    (meshes_makes now c.self.invariant.valid c.args.p here.0 here.1 may granted _ _ (c.go_to.ensures.standings here.0 here.1, ap (λ ends. ends.items) c.go_to.ensures.ends))

pub returns-in-Ok : goal.returns-in-Ok
returns-in-Ok c =
    let now = kept_view c.self.inside in
    let may = may_now c.args.self.now (kept_view c.self.inside) c.self.view_is c.self.invariant c.args.p takes_meshes c.requires.fitting in
    let granted = granted_now c.args.self.now (kept_view c.self.inside) c.self.view_is c.self.invariant c.args.p takes_meshes c.requires.granted in
    let here = here_now c.args.self.now (kept_view c.self.inside) c.self.view_is c.self.invariant c.args.p takes_meshes c.requires.fitting in
    record {
      reply = answers_core c.args.self.now (kept_view c.self.inside) c.self.view_is c.self.invariant c.args.p takes_meshes _
          (meshes_answers now c.self.invariant.valid c.args.p here.0 here.1 may granted c.in-Ok.meshes
          (λ sides are sent. c.in-Ok.ensures.collected sides (as_standing c.self.inside.plan c.self.inside.sides sides are) sent));
      memory = tt;
      stands = makes_core c.args.self.now (kept_view c.self.inside) c.self.view_is c.self.invariant c.args.p takes_meshes _
          (meshes_makes now c.self.invariant.valid c.args.p here.0 here.1 may granted _ _ (c.go_to.ensures.standings here.0 here.1, ap (λ ends. ends.items) c.go_to.ensures.ends));
      plan = ap (λ core. core.plan) c.self.view_is;
      unchanged = tt;
    }
