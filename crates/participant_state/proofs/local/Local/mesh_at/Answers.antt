use Rattle.std.proofs.Common.{◌<◌, length, get_or, ap, sym, subst, ◌∙◌}
use Rattle.cpl_plan.specs.declared.parts.PlanParts.{PlanParts}
use Rattle.participant_state.specs.Member.{Member}
use Rattle.participant_state.proofs.CallsNamed.{mesh_there}
use Rattle.participant_state.proofs.local.Local.mesh_at.Goals as goal

pub returns-clause-there : goal.returns-clause-there
returns-clause-there c =
    let s = c.self.inside in
    let within = subst (λ (m : Member). c.args.place < length m.course.own) (sym c.self.view_is) c.requires in
    subst (λ (m : Member). get_or c.as_slice-2.result.now c.args.place 0 < length m.plan.meshes) c.self.view_is
    (mesh_there s.plan s.part s.names s.own s.writes s.reads c.self.invariant.0 c.parts-parts.ensures.valid
    c.as_slice.result.now c.index-as_slice-self.result (c.as_slice.ensures ∙ ap (λ (q : PlanParts). q.parts) c.parts-parts.ensures.value)
    c.as_slice-2.result.now c.as_slice-2.ensures c.args.place within)
