use Rattle.std.proofs.Common.{◌<◌, ◌^◌, length, arith, lit<}
use Rattle.std.proofs.lemmas.List.FromFn.{length-map-range_with_len}
use Rattle.case_rigs.specs.Lines.{line_point}
use Rattle.case_rigs.proofs.LineParts.{points_more}
use Rattle.case_rigs.proofs.points.drawn.Goals as goal

pub push_between-requires : goal.push_between-requires
push_between-requires g c =
    let long = length-map-range_with_len (λ vertex. line_point c.args.count vertex c.args.from.now c.args.to.now) 0 c.vertices.vertex in
    let room : length c.vertices.mesh < 10 ^ 4 = rw c.vertices.invariant (omega (arith, long, c.vertices-test.true, c.requires.few)) in
    (lit< tt, (c.requires.dimension, (c.requires.from, (c.requires.to, (c.vertices-test.true, (c.requires.few, room))))))

pub vertices-preserved : goal.vertices-preserved
vertices-preserved g c = points_more c.args.count c.vertices.vertex c.args.from.now c.args.to.now c.vertices.mesh c.push_between.new.mesh c.in_ok-push_between.ensures c.vertices.invariant
