use Rattle.std.proofs.Common.{List, [], ◌∷◌, ◌++◌, refl, ap, sym, subst, ◌∙◌}
use Rattle.core_sides.specs.declared.event.Event.TheVariants.{PostMesh, TakeMeshes}
use Rattle.participant_tables.specs.Queued.{Queued}
use Rattle.participant_words.specs.Refusals.{has_empty_mesh}
use Rattle.participant_words.specs.declared.phase.EventKind.{EventKind}
use Rattle.participant_words.specs.declared.phase.Phase.{Phase}
use Rattle.participant_state.specs.Agenda.{agenda, Stands, StandsIn}
use Rattle.participant_state.specs.Member.{Member}
use Rattle.participant_state.proofs.CallsOwn.{own_stand, fresh_begins}
use Rattle.participant_state.proofs.local.Local.begin_initialize.Goals as goal

pub invariant_of-self : goal.invariant_of-self
invariant_of-self c =
    let s = c.self.inside in
    let v = c.self.invariant in
    let waits =
    c.push-2.ensures
    ∙ ap (λ (q : Queued). record q { waiting = q.waiting ++ TakeMeshes ∷ [] })
    (c.push.ensures ∙ ap (λ (q : Queued). record q { waiting = q.waiting ++ PostMesh c.in-Ok.meshes ∷ [] }) c.clear.ensures) in
    let full = ap (λ (m : Member). has_empty_mesh m.plan m.part m.course) c.self.view_is ∙ sym c.has_empty_mesh.ensures ∙ c.if-has_empty_mesh.false in
    let fresh = subst (λ (p : Phase). StandsIn s.plan s.part s.own s.clock s.passages s.inputs.items s.times.items p (agenda s.queue)) (fresh_begins s.phase c.in_ok-allow.ensures.refusal) v.6 in (
      v.0,
      v.1,
      v.2,
      v.3,
      v.4,
      subst (λ (kinds : List EventKind). Stands s.plan s.part s.own s.clock s.passages s.inputs.items s.times.items kinds) (sym (ap agenda waits))
          (record { before = fresh.1; meshes = own_stand s.plan s.part s.names s.own s.writes s.reads v.0 full }, refl),
      tt,
      v.7,
    )
