use Rattle.std.proofs.Common.{◌≡◌, ℕ, Option, None, unwrap_or, ap, sym, ◌∙◌}
use Rattle.participant_words.specs.Deeds.{sets_vertices}
use Rattle.participant_words.specs.Entries.{dimensions_at, points_in}
use Rattle.participant_words.specs.Phases.{not_allowed}
use Rattle.participant_words.specs.Refusals.{on_mesh}
use Rattle.participant_words.specs.declared.phase.Call.TheVariants.{SetVertices}
use Rattle.participant_state.specs.Member.{Member, did, mesh_called}
use Rattle.participant_state.proofs.CallsCalled.{ok_by}
use Rattle.participant_state.proofs.CallsVertices.{first_granted, fresh_sets}
use Rattle.participant_state.proofs.local.Local.set_vertices.Goals as goal

pub add_vertices-requires-clause-fresh : goal.add_vertices-requires-clause-fresh
add_vertices-requires-clause-fresh c =
    let now = c.args.self.now in
    fresh_sets now.course.phase
    (first_granted (not_allowed SetVertices now.course.phase) (on_mesh now.plan now.part now.course c.args.mesh.now (λ place. None)) (c.in_ok-place.ensures.granted (λ place. None)))

pub returns-clause-done : goal.returns-clause-done
returns-clause-done c =
    let now = c.args.self.now in
    let place = c.in_ok-place.place in
    let named = ap (λ (o : Option ℕ). unwrap_or o 0) c.in_ok-place.ensures.found.0 in
    let deed : ℕ → Member = λ (p : ℕ). did now (sets_vertices p (points_in (dimensions_at now.course p) c.args.points.now)) in
    ok_by c.add_vertices.result (c.add_vertices.new.self ≡ deed place) (c.add_vertices.new.self ≡ deed (mesh_called now c.args.mesh.now))
    (λ told. told ∙ ap deed (sym named)) c.add_vertices.ensures.done
