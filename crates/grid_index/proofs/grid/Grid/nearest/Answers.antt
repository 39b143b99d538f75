use Rattle.std.proofs.Common.{◌≡◌, ◌+◌, ◌*◌, ◌^◌, ◌<◌, ◌≤◌, ℕ, Option, None, Some, subst, sym, arith, rules}
use Rattle.grid_index.specs.Block.{least_width}
use Rattle.grid_index.specs.Candidates.{IsFound, GoesBefore}
use Rattle.grid_index.specs.declared.candidate.Candidate.{Candidate}
use Rattle.grid_index.specs.declared.candidate.Search.{Search}
use Rattle.grid_index.proofs.Padding.{one_number}
use Rattle.grid_index.proofs.Ranks.{is_nearest}
use Rattle.grid_index.proofs.Regions.{IsRegion, region-spans, may_first, searched_first, may_next, searched_next}
use Rattle.grid_index.proofs.Searches.{IsSought, cut_of, done, best_at_most, reach_at_most, still_near, cost-le, near_cost}
use Rattle.grid_index.proofs.grid.Grid.nearest.Goals as goal

pub look_in_box-requires : goal.look_in_box-requires
look_in_box-requires g c =
    let G = c.args.self.now in
    let P = c.args.p.now in
    let is : IsSought g.row.D G P = record { dimension = c.requires.dimensions; gridded = c.box_within-known.ensures.gridded; at = c.box_within-known.ensures.point } in
    let region : IsRegion g.row.D G P 0 c.box_within-known.result = record { spans = c.box_within-known.ensures.spans } in
    let spans = region-spans g.row.D G P 0 c.box_within-known.result is region in
    let cut = cut_of g.row.D G is.dimension is.gridded in
    let start : Search = record { best = None; steps = c.args.steps.now } in (
      search rules,
      (
        search rules,
        (
          c.requires.dimensions,
          (
            cut.small,
            (
              spans 1 one_number (omega arith),
              (
                spans 2 one_number (omega arith),
                may_first g.row.D G P 0 c.box_within-known.result start is region (search rules) c.requires.room,
              ),
            ),
          ),
        ),
      ),
    )

pub loop-farther-init : goal.loop-farther-init
loop-farther-init g c =
    let G = c.args.self.now in
    let P = c.args.p.now in
    let is : IsSought g.row.D G P = record { dimension = c.requires.dimensions; gridded = c.box_within-known.ensures.gridded; at = c.box_within-known.ensures.point } in
    let region : IsRegion g.row.D G P 0 c.box_within-known.result = record { spans = c.box_within-known.ensures.spans } in
    let start : Search = record { best = None; steps = c.args.steps.now } in
    record {
      small = omega arith;
      region = region;
      searched = searched_first g.row.D G P 0 c.box_within-known.result start c.look_in_box.new.search is region c.look_in_box.ensures;
      near = λ u inside near. omega arith;
    }

pub farther-requires : goal.farther-requires
farther-requires g c =
    let G = c.args.self.now in
    let P = c.args.p.now in
    let is : IsSought g.row.D G P = record { dimension = c.requires.dimensions; gridded = c.box_within-known.ensures.gridded; at = c.box_within-known.ensures.point } in
    let inv = c.loop-farther.invariant in
    (search rules, (c.requires.dimensions, (best_at_most g.row.D G P c.loop-farther.search.best is inv.searched.found, reach_at_most g.row.D G P c.loop-farther.reach c.loop-farther.search.best is inv.searched.looked)))

pub look_round-requires : goal.look_round-requires
look_round-requires g c =
    let G = c.args.self.now in
    let P = c.args.p.now in
    let is : IsSought g.row.D G P = record { dimension = c.requires.dimensions; gridded = c.box_within-known.ensures.gridded; at = c.box_within-known.ensures.point } in
    let inv = c.loop-farther.invariant in
    let outer : IsRegion g.row.D G P c.in-Some.farther c.box_within-within.result = record { spans = c.box_within-within.ensures.spans } in
    let cut = cut_of g.row.D G is.dimension is.gridded in (
      search rules,
      (
        search rules,
        (
          c.requires.dimensions,
          (
            cut.small,
            may_next g.row.D G P c.loop-farther.reach c.in-Some.farther c.args.steps.now c.loop-farther.known c.box_within-within.result c.loop-farther.search is inv.region outer
                (omega (arith, c.in-Some.ensures.farther)) inv.searched c.requires.room,
          ),
        ),
      ),
    )

pub loop-farther-preserved : goal.loop-farther-preserved
loop-farther-preserved g c =
    let G = c.args.self.now in
    let P = c.args.p.now in
    let is : IsSought g.row.D G P = record { dimension = c.requires.dimensions; gridded = c.box_within-known.ensures.gridded; at = c.box_within-known.ensures.point } in
    let inv = c.loop-farther.invariant in
    let outer : IsRegion g.row.D G P c.in-Some.farther c.box_within-within.result = record { spans = c.box_within-within.ensures.spans } in
    let h = least_width c.args.self.now.cells.axes in
    record {
      small = c.in-Some.ensures.farther.1;
      region = outer;
      searched = searched_next g.row.D G P c.loop-farther.reach c.in-Some.farther c.args.steps.now c.loop-farther.known c.box_within-within.result c.loop-farther.search c.look_round.new.search is inv.region outer
          inv.searched c.look_round.ensures;
      near = λ u inside near. c.in-Some.ensures.width
          (still_near g.row.D G P c.loop-farther.reach h u c.loop-farther.search.best is inv.searched.looked c.in-Some.ensures.open inside near (inv.near u inside near));
    }

pub returns-clause-nearest : goal.returns-clause-nearest
returns-clause-nearest g c =
    let G = c.args.self.now in
    let P = c.args.p.now in
    let is : IsSought g.row.D G P = record { dimension = c.requires.dimensions; gridded = c.box_within-known.ensures.gridded; at = c.box_within-known.ensures.point } in
    let inv = c.loop-farther.invariant in
    let best = c.in-Some-best.is in
    is_nearest G.mesh P c.in-Some-best.found is.gridded.mesh.few (subst (IsFound G.mesh P) best inv.searched.found)
    (λ u inside. subst (λ (o : Option Candidate). GoesBefore G.mesh P o u) best (done g.row.D G P c.loop-farther.reach c.loop-farther.search.best is inv.searched.found inv.searched.looked c.in_default.ensures.done u inside))

pub returns-clause-steps : goal.returns-clause-steps
returns-clause-steps g c =
    let G = c.args.self.now in
    let P = c.args.p.now in
    let is : IsSought g.row.D G P = record { dimension = c.requires.dimensions; gridded = c.box_within-known.ensures.gridded; at = c.box_within-known.ensures.point } in
    let inv = c.loop-farther.invariant in
    omega (arith, inv.searched.cost, cost-le g.row.D G P c.loop-farther.reach is)

pub returns-clause-near : goal.returns-clause-near
returns-clause-near g c near =
    let G = c.args.self.now in
    let P = c.args.p.now in
    let is : IsSought g.row.D G P = record { dimension = c.requires.dimensions; gridded = c.box_within-known.ensures.gridded; at = c.box_within-known.ensures.point } in
    let inv = c.loop-farther.invariant in
    let found = subst (IsFound G.mesh P) c.in-Some-best.is inv.searched.found in
    let small = inv.near c.in-Some-best.found.vertex found.0 near in
    omega (arith, inv.searched.cost, near_cost g.row.D G P c.loop-farther.reach is small)
