use Rattle.std.proofs.Common.{◌≡◌, ◌<◌, ◌∷◌, [], ℕ, List, ℤ, Option, None, length, unwrap_or, ap, sym, subst, ◌∙◌}
use Rattle.std.specs.Option.{option_map_or}
use Rattle.mesh_data.specs.AnyMeshes.{dimensions_of}
use Rattle.mesh_data.specs.declared.any_mesh.AnyMesh.{AnyMesh}
use Rattle.cpl_plan.proofs.Readings.{there}
use Rattle.participant_words.specs.Deeds.{sets_vertices}
use Rattle.participant_words.specs.Entries.{dimensions_at, points_in}
use Rattle.participant_words.specs.Phases.{not_allowed}
use Rattle.participant_words.specs.Refusals.{on_mesh}
use Rattle.participant_words.specs.declared.phase.Call.TheVariants.{SetVertex}
use Rattle.participant_state.specs.Member.{Member, did, mesh_called}
use Rattle.participant_state.proofs.CallsCalled.{ok_by}
use Rattle.participant_state.proofs.CallsVertices.{first_granted, fresh_sets_one, one_point, told_at}
use Rattle.participant_state.proofs.local.Local.set_vertex.Goals as goal

pub add_vertices-requires-clause-fresh : goal.add_vertices-requires-clause-fresh
add_vertices-requires-clause-fresh c =
    let now = c.args.self.now in
    fresh_sets_one now.course.phase
    (first_granted (not_allowed SetVertex now.course.phase) (on_mesh now.plan now.part now.course c.args.mesh.now (λ place. None)) (c.in_ok-place.ensures.granted (λ place. None)))

pub returns-clause-done : goal.returns-clause-done
returns-clause-done c =
    let now = c.args.self.now in
    let place = c.in_ok-place.place in
    let named = ap (λ (o : Option ℕ). unwrap_or o 0) c.in_ok-place.ensures.found.0 in
    let s = c.self.inside in
    let within = subst (λ (m : Member). place < length m.course.own) (sym c.self.view_is) c.in_ok-place.ensures.found.1 in
    let mesh = there s.own place within in
    let dims = told_at s.own place c.dimensions-dimensions.result dimensions_of mesh.0 mesh.1 c.dimensions-dimensions.ensures in
    let here = sym (ap (λ (m : Member). dimensions_at m.course place) c.self.view_is) ∙ ap (λ (o : Option AnyMesh). option_map_or dimensions_of o 0) mesh.1 in
    let point = ap (λ (d : ℕ). points_in d c.args.point.now) here ∙ one_point mesh.0 c.args.point.now (c.if-point-dimensions.false ∙ dims) in
    let deed : ℕ → List (List ℤ) → Member = λ (p : ℕ) (points : List (List ℤ)). did now (sets_vertices p points) in
    ok_by c.add_vertices.result (c.add_vertices.new.self ≡ deed place (points_in (dimensions_at now.course place) c.args.point.now))
    (c.add_vertices.new.self ≡ deed (mesh_called now c.args.mesh.now) (c.args.point.now ∷ []))
    (λ told. told ∙ ap (deed place) point ∙ ap (λ (p : ℕ). deed p (c.args.point.now ∷ [])) (sym named)) c.add_vertices.ensures.done
