use Rattle.std.proofs.Common.{◌≡◌, ℕ, ◌+◌, ◌*◌, ◌^◌, ◌<◌, ◌≤◌, [], ◌∷◌, subst, sym, ap, ◌∙◌, arith, rules}
use Rattle.std.proofs.lemmas.Nat.{mul-le}
use Rattle.grid_index.specs.Boxes.{IsSpan}
use Rattle.grid_index.specs.Looking.{MayLook, HasLooked, MayLookRound, HasLookedRound, cost_in}
use Rattle.grid_index.specs.declared.spans.Span.{Span}
use Rattle.grid_index.proofs.Looks.{looked_none, may_here, looked_more, may_cell, room_at_cell, cell_more, may_below, may_round, may_above, upto_first, upto_more, upto_known, all_round, HasLookedUpto}
use Rattle.grid_index.proofs.Searches.{cut_of}
use Rattle.grid_index.proofs.grid.Grid.look_in_row.Goals as goal

pub overflow_mul-front : goal.overflow_mul-front
overflow_mul-front g c =
    let cut = cut_of g.row.D c.args.self.now c.requires.dimensions c.per_axis.ensures.gridded in
    let bound = mul-le c.args.front c.per_axis.result (10 ^ 9) (10 ^ 4) c.requires.front (omega (arith, c.per_axis.ensures.value, cut.small)) in
    omega (arith, bound)

pub overflow_add-front : goal.overflow_add-front
overflow_add-front g c =
    let cut = cut_of g.row.D c.args.self.now c.requires.dimensions c.per_axis.ensures.gridded in
    let bound = mul-le c.args.front c.per_axis.result (10 ^ 9) (10 ^ 4) c.requires.front (omega (arith, c.per_axis.ensures.value, cut.small)) in
    omega (arith, bound, c.requires.may.numbers, cut.small)

pub look_at_cell-requires : goal.look_at_cell-requires
look_at_cell-requires g c =
    let G = c.args.self.now in
    let P = c.args.point.now in
    let p = c.args.self.now.cells.per_axis in
    let e = c.per_axis.ensures.value in
    let inv = c.loop-n.invariant in
    let cell : ℕ → ℕ = λ q. c.args.front * q + c.loop-n.n in (
      search rules,
      (
        search rules,
        (
          c.requires.dimensions,
          (
            subst (λ (q : ℕ). cell q < p ^ g.row.D) (sym e) (may_cell (p ^ g.row.D) G P c.args.front c.args.numbers.first c.loop-n.n c.args.numbers.end c.args.search.now inv.from (omega arith) c.requires.may),
            (
              inv.looked.improved.found,
              subst (λ (q : ℕ). c.loop-n.search.steps + cost_in G (cell q) < 2 ^ 64) (sym e) (room_at_cell (p ^ g.row.D) G P c.args.front c.args.numbers.first c.loop-n.n c.args.numbers.end c.args.search.now c.loop-n.search (omega arith) c.requires.may inv.looked),
            ),
          ),
        ),
      ),
    )

pub loop-n-preserved : goal.loop-n-preserved
loop-n-preserved g c =
    let G = c.args.self.now in
    let P = c.args.point.now in
    let p = c.args.self.now.cells.per_axis in
    let e = c.per_axis.ensures.value in
    let inv = c.loop-n.invariant in
    let seen = c.look_at_cell.ensures in
    record {
      from = omega (arith, inv.from);
      upto = omega arith;
      looked = cell_more G P c.args.front c.args.numbers.first c.loop-n.n c.args.search.now c.loop-n.search c.look_at_cell.new.search inv.looked
          (subst (λ (q : ℕ). c.look_at_cell.new.search.steps ≡ c.loop-n.search.steps + cost_in G (c.args.front * q + c.loop-n.n)) e seen.steps)
          seen.improved (λ u inside at. seen.looked u inside (at ∙ ap (λ (q : ℕ). c.args.front * q + c.loop-n.n) (sym e)));
    }

pub returns : goal.returns
returns g c =
    let inv = c.loop-n.invariant in
    let same : c.loop-n.n ≡ c.args.numbers.end = omega (arith, inv.upto) in
    subst (λ (n : ℕ). HasLooked c.args.self.now c.args.point.now [] c.args.front c.args.numbers.first n c.args.search.now c.loop-n.search) same inv.looked
