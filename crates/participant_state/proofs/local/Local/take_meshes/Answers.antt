use Rattle.std.proofs.Common.{◌≡◌, List, Some, Ok, Err, ap, sym, subst, ◌∙◌}
use Rattle.mesh_data.specs.declared.any_mesh.AnyMesh.{AnyMesh}
use Rattle.wave_coupling.specs.PostedWaves.{initial_post}
use Rattle.participant_words.specs.Course.{written_next}
use Rattle.participant_words.specs.KnownByReply.{known_by}
use Rattle.participant_words.specs.Replies.{AreMeshes}
use Rattle.participant_waves.specs.KnownMeshes.{HasMeshes}
use Rattle.participant_waves.specs.PassagesStand.{ArePassages}
use Rattle.participant_waves.proofs.CanBeSent.{all_can_send_initial}
use Rattle.participant_state.specs.Member.{Member}
use Rattle.participant_state.proofs.EntriesStand.{entries_stand}
use Rattle.participant_state.proofs.JoinMeshes.{has_meshes, meshes_joined, meshes_outside, posts_next}
use Rattle.participant_state.proofs.JoinStands.{meshes_asked}
use Rattle.participant_state.proofs.local.Local.take_meshes.Goals as goal

pub make-requires : goal.make-requires
make-requires c =
    let l = c.self.inside in
    let out = ap (λ (m : Member). m.course.out) c.self.view_is ∙ c.requires.out in
    let come = subst (λ (m : Member). AreMeshes m.plan m.part m.course c.args.meshes.now) (sym c.self.view_is) c.requires.meshes in
    let asked = meshes_asked l.plan l.part l.own l.clock l.passages l.inputs.items l.times.items l.queue out c.self.invariant.5 in
    subst (λ (own : List AnyMesh). HasMeshes l.plan l.part own c.args.meshes.now) (sym c.as_slice.ensures)
    (has_meshes l.plan l.part _ l.own c.args.meshes.now c.self.invariant.0.participant asked.meshes come)

pub initial_post-requires : goal.initial_post-requires
initial_post-requires c =
    let l = c.self.inside in
    let stand = subst (λ (own : List AnyMesh). ArePassages l.plan l.part (known_by l.plan l.part own c.args.meshes.now) c.in_ok-passages.passages) c.as_slice.ensures c.in_ok-passages.ensures in
    all_can_send_initial l.plan l.part (known_by l.plan l.part l.own c.args.meshes.now) c.in_ok-passages.passages.sends l.writes stand.sends
    (entries_stand l.plan l.part c.parts-parts.ensures.valid l.names l.own c.args.meshes.now l.writes l.reads l.times.items c.self.invariant.0 c.self.invariant.1)

pub join-requires-clause-meshes : goal.join-requires-clause-meshes
join-requires-clause-meshes c =
    let l = c.self.inside in
    let out = ap (λ (m : Member). m.course.out) c.self.view_is ∙ c.requires.out in
    let come = subst (λ (m : Member). AreMeshes m.plan m.part m.course c.args.meshes.now) (sym c.self.view_is) c.requires.meshes in
    let asked = meshes_asked l.plan l.part l.own l.clock l.passages l.inputs.items l.times.items l.queue out c.self.invariant.5 in
    subst (λ (m : Member). HasMeshes m.plan m.part m.course.own c.in_ok-received.received.items) c.self.view_is
    (subst (λ (given : List AnyMesh). HasMeshes l.plan l.part l.own given) (sym c.in_ok-received.ensures)
    (has_meshes l.plan l.part _ l.own c.args.meshes.now c.self.invariant.0.participant asked.meshes come))

pub join_in_vain-requires-clause-meshes : goal.join_in_vain-requires-clause-meshes
join_in_vain-requires-clause-meshes c =
    let l = c.self.inside in
    let out = ap (λ (m : Member). m.course.out) c.self.view_is ∙ c.requires.out in
    let come = subst (λ (m : Member). AreMeshes m.plan m.part m.course c.args.meshes.now) (sym c.self.view_is) c.requires.meshes in
    let asked = meshes_asked l.plan l.part l.own l.clock l.passages l.inputs.items l.times.items l.queue out c.self.invariant.5 in
    subst (λ (m : Member). HasMeshes m.plan m.part m.course.own c.in_ok-received.received.items) c.self.view_is
    (subst (λ (given : List AnyMesh). HasMeshes l.plan l.part l.own given) (sym c.in_ok-received.ensures)
    (has_meshes l.plan l.part _ l.own c.args.meshes.now c.self.invariant.0.participant asked.meshes come))

pub returns-in-Ok-clause-done : goal.returns-in-Ok-clause-done
returns-in-Ok-clause-done c =
    let l = c.self.inside in
    let m = c.args.self.now in
    let known = known_by l.plan l.part l.own c.args.meshes.now in
    let stand = subst (λ (own : List AnyMesh). ArePassages l.plan l.part (known_by l.plan l.part own c.args.meshes.now) c.in_ok-passages.passages) c.as_slice.ensures c.in_ok-passages.ensures in
    let entries = entries_stand l.plan l.part c.parts-parts.ensures.valid l.names l.own c.args.meshes.now l.writes l.reads l.times.items c.self.invariant.0 c.self.invariant.1 in
    let made = subst (λ (m : Member). initial_post m.plan m.part (known_by m.plan m.part m.course.own c.args.meshes.now) (written_next m.course) ≡ Ok c.in-Ok.waves) c.self.view_is
    (posts_next l.plan l.part known l.writes ∙ c.in-Ok.ensures.posted l.plan l.part known stand.sends entries) in
    c.join.ensures ∙ meshes_joined m c.args.meshes.now c.in_ok-received.received.items c.in_ok-received.ensures c.requires.out c.in-Ok.waves made

pub returns-in-Err-Overflow-clause-done : goal.returns-in-Err-Overflow-clause-done
returns-in-Err-Overflow-clause-done c =
    let l = c.self.inside in
    let m = c.args.self.now in
    let known = known_by l.plan l.part l.own c.args.meshes.now in
    let stand = subst (λ (own : List AnyMesh). ArePassages l.plan l.part (known_by l.plan l.part own c.args.meshes.now) c.in_ok-passages.passages) c.as_slice.ensures c.in_ok-passages.ensures in
    let entries = entries_stand l.plan l.part c.parts-parts.ensures.valid l.names l.own c.args.meshes.now l.writes l.reads l.times.items c.self.invariant.0 c.self.invariant.1 in
    let refused = rw c.in-Err-Overflow.field-0-is at (c.in-Err-Overflow.ensures.refused l.plan l.part known stand.sends entries) in
    let made = subst (λ (m : Member). initial_post m.plan m.part (known_by m.plan m.part m.course.own c.args.meshes.now) (written_next m.course) ≡ Err (Some c.in-Err-Overflow.fault)) c.self.view_is
    (posts_next l.plan l.part known l.writes ∙ refused) in
    c.join_in_vain.ensures ∙ meshes_outside m c.args.meshes.now c.in_ok-received.received.items c.in_ok-received.ensures c.requires.out c.in-Err-Overflow.fault made
