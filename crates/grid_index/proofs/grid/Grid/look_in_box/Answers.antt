use Rattle.std.proofs.Common.{◌≡◌, ℕ, ◌+◌, ◌*◌, ◌^◌, ◌<◌, ◌≤◌, [], ◌∷◌, subst, sym, ap, ◌∙◌, arith, rules}
use Rattle.std.proofs.lemmas.Nat.{mul-le}
use Rattle.grid_index.specs.Boxes.{IsSpan}
use Rattle.grid_index.specs.Looking.{MayLook, HasLooked, MayLookRound, HasLookedRound, cost_in}
use Rattle.grid_index.specs.declared.spans.Span.{Span}
use Rattle.grid_index.proofs.Looks.{looked_none, may_here, looked_more, may_cell, room_at_cell, cell_more, may_below, may_round, may_above, upto_first, upto_more, upto_known, all_round, HasLookedUpto}
use Rattle.grid_index.proofs.Searches.{cut_of}
use Rattle.grid_index.proofs.grid.Grid.look_in_box.Goals as goal

pub look_in_plane-requires : goal.look_in_plane-requires
look_in_plane-requires g c =
    let G = c.args.self.now in
    let P = c.args.point.now in
    let p = c.args.self.now.cells.per_axis in
    let rows = c.args.within.rows in
    let row = c.args.within.row in
    let inv = c.loop-n.invariant in
    let e : 0 * p + c.loop-n.n ≡ c.loop-n.n = omega arith in (
      search rules,
      (
        search rules,
        (
          c.requires.dimensions,
          (
            omega (arith, c.requires.may.numbers, c.requires.few),
            (
              c.requires.row,
              subst (λ (front : ℕ). MayLook (p ^ g.row.D) G P (row ∷ []) front rows.first rows.end c.loop-n.search) e
                  (may_here (p ^ g.row.D) G P rows (row ∷ []) 0 c.args.numbers.first c.loop-n.n c.args.numbers.end c.args.search.now c.loop-n.search c.requires.rows inv.from (omega arith) c.requires.may inv.looked),
            ),
          ),
        ),
      ),
    )

pub loop-n-preserved : goal.loop-n-preserved
loop-n-preserved g c =
    let G = c.args.self.now in
    let P = c.args.point.now in
    let p = c.args.self.now.cells.per_axis in
    let rows = c.args.within.rows in
    let row = c.args.within.row in
    let inv = c.loop-n.invariant in
    let e : 0 * p + c.loop-n.n ≡ c.loop-n.n = omega arith in
    record {
      from = omega (arith, inv.from);
      upto = omega arith;
      looked = looked_more G P rows (row ∷ []) 0 c.args.numbers.first c.loop-n.n c.args.search.now c.loop-n.search c.look_in_plane.new.search c.requires.rows inv.looked
          (subst (λ (front : ℕ). HasLooked G P (row ∷ []) front rows.first rows.end c.loop-n.search c.look_in_plane.new.search) (sym e) c.look_in_plane.ensures);
    }

pub returns : goal.returns
returns g c =
    let inv = c.loop-n.invariant in
    let same : c.loop-n.n ≡ c.args.numbers.end = omega (arith, inv.upto) in
    subst (λ (n : ℕ). HasLooked c.args.self.now c.args.point.now (c.args.within.rows ∷ c.args.within.row ∷ []) 0 c.args.numbers.first n c.args.search.now c.loop-n.search) same inv.looked
