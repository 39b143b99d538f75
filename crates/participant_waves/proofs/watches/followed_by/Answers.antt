use Rattle.std.proofs.Common.{List, ℤ, sym, subst}
use Rattle.mesh_data.specs.AnyMeshes.{dimensions_of, vertices_of}
use Rattle.mesh_data.specs.Nearest.{IsNearest}
use Rattle.mesh_data.specs.Points.{IsPoint}
use Rattle.wave_coupling.specs.Known.{points_of}
use Rattle.participant_words.specs.KnownByReply.{known_by}
use Rattle.participant_waves.proofs.WatchPlaces.{watched_known, watched_point, followed}
use Rattle.participant_waves.proofs.watches.followed_by.Goals as goal

pub known_mesh-mesh-requires-clause-mesh : goal.known_mesh-mesh-requires-clause-mesh
known_mesh-mesh-requires-clause-mesh c =
    watched_known c.args.plan.now c.args.part c.part-participant.result.now c.parts-parts.ensures.valid c.part-participant.ensures c.args.watch.now c.requires.watch

pub nearest_to-requires-clause-at : goal.nearest_to-requires-clause-at
nearest_to-requires-clause-at c =
    subst (λ (at : List ℤ). IsPoint (dimensions_of c.known_mesh-mesh.result.now) at) (sym c.as_slice.ensures)
    (watched_point c.args.plan.now c.args.part c.part-participant.result.now c.parts-parts.ensures.valid c.part-participant.ensures c.args.watch.now c.requires.watch
    c.known_mesh-mesh.result.now c.known_mesh-mesh.ensures.of_plan)

pub returns : goal.returns
returns c =
    followed (points_of c.args.plan.now c.args.part (known_by c.args.plan.now c.args.part c.args.own.now c.args.received.now) c.args.watch.now.mesh)
    (vertices_of c.known_mesh-mesh.result.now) c.args.watch.now.at c.nearest_to.result c.known_mesh-mesh.ensures.points
    (subst (λ (at : List ℤ). IsNearest (vertices_of c.known_mesh-mesh.result.now) at c.nearest_to.result) c.as_slice.ensures c.nearest_to.ensures)
