use Rattle.std.proofs.Common.{ap, ◌∙◌}
use Rattle.participant_tables.specs.AtPlace.{at_place}
use Rattle.participant_tables.specs.Vertices.{with_points}
use Rattle.participant_tables.proofs.InPlace.{changed-one}
use Rattle.participant_tables.proofs.own_meshes.OwnMeshes.add_points.Goals as goal

pub returns-clause-added : goal.returns-clause-added
returns-clause-added c =
    changed-one (with_points c.args.coordinates.now) c.self.inside.meshes.items c.args.place c.index_mut.result.now c.extend.new.mesh
    (c.in_ok-extend.ensures.added ∙ ap (with_points c.args.coordinates.now) c.index_mut.ensures.value)
    ∙ ap (at_place (with_points c.args.coordinates.now) c.args.place) c.self.view_is
