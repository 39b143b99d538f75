use Rattle.std.proofs.Common.{◌≡◌, ℕ, ◌+◌, ◌*◌, ◌^◌, ◌<◌, ◌≤◌, [], ◌∷◌, subst, sym, ap, ◌∙◌, arith, rules}
use Rattle.std.proofs.lemmas.Nat.{mul-le}
use Rattle.grid_index.specs.Boxes.{IsSpan}
use Rattle.grid_index.specs.Looking.{MayLook, HasLooked, MayLookRound, HasLookedRound, cost_in}
use Rattle.grid_index.specs.declared.spans.Span.{Span}
use Rattle.grid_index.proofs.Looks.{looked_none, may_here, looked_more, may_cell, room_at_cell, cell_more, may_below, may_round, may_above, upto_first, upto_more, upto_known, all_round, HasLookedUpto}
use Rattle.grid_index.proofs.Searches.{cut_of}
use Rattle.grid_index.proofs.grid.Grid.look_round_row.Goals as goal

pub look_in_row-requires : goal.look_in_row-requires
look_in_row-requires g c =
    let G = c.args.self.now in
    let P = c.args.point.now in
    let count = G.cells.per_axis ^ g.row.D in (
      search rules,
      (
        search rules,
        (
          c.requires.dimensions,
          (
            c.requires.front,
            subst (λ (s : Span). MayLook count G P [] c.args.front s.first s.end c.args.search.now) (sym c.before-below.ensures)
                (may_below count G P c.args.row c.args.known [] [] c.args.front c.args.search.now c.requires.may),
          ),
        ),
      ),
    )

pub look_in_row-requires-2 : goal.look_in_row-requires-2
look_in_row-requires-2 g c =
    let G = c.args.self.now in
    let P = c.args.point.now in
    let count = G.cells.per_axis ^ g.row.D in
    let below = subst (λ (s : Span). HasLooked G P [] c.args.front s.first s.end c.args.search.now c.look_in_row.new.search) c.before-below.ensures c.look_in_row.ensures in
    let upto = upto_known G P c.args.row c.args.known c.args.front c.args.search.now c.look_in_row.new.search (upto_first G P c.args.row c.args.known [] [] c.args.front c.args.search.now c.look_in_row.new.search below) in (
      search rules,
      (
        search rules,
        (
          c.requires.dimensions,
          (
            c.requires.front,
            subst (λ (s : Span). MayLook count G P [] c.args.front s.first s.end c.look_in_row.new.search) (sym c.after-above.ensures)
                (may_above count G P c.args.row c.args.known [] [] c.args.front c.args.search.now c.look_in_row.new.search c.requires.may upto),
          ),
        ),
      ),
    )

pub returns : goal.returns
returns g c =
    let G = c.args.self.now in
    let P = c.args.point.now in
    let count = G.cells.per_axis ^ g.row.D in
    let below = subst (λ (s : Span). HasLooked G P [] c.args.front s.first s.end c.args.search.now c.look_in_row.new.search) c.before-below.ensures c.look_in_row.ensures in
    let upto = upto_known G P c.args.row c.args.known c.args.front c.args.search.now c.look_in_row.new.search (upto_first G P c.args.row c.args.known [] [] c.args.front c.args.search.now c.look_in_row.new.search below) in
    let above = subst (λ (s : Span). HasLooked G P [] c.args.front s.first s.end c.look_in_row.new.search c.look_in_row-2.new.search) c.after-above.ensures c.look_in_row-2.ensures in
    all_round count G P c.args.row c.args.known [] [] c.args.front c.args.search.now c.look_in_row.new.search c.look_in_row-2.new.search c.requires.may upto above
