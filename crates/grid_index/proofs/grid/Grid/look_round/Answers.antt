use Rattle.std.proofs.Common.{◌≡◌, ℕ, ◌+◌, ◌*◌, ◌^◌, ◌<◌, ◌≤◌, [], ◌∷◌, subst, sym, ap, ◌∙◌, arith, rules}
use Rattle.std.proofs.lemmas.Nat.{mul-le}
use Rattle.grid_index.specs.Boxes.{IsSpan}
use Rattle.grid_index.specs.Looking.{MayLook, HasLooked, MayLookRound, HasLookedRound, cost_in}
use Rattle.grid_index.specs.declared.spans.Span.{Span}
use Rattle.grid_index.proofs.Looks.{looked_none, may_here, looked_more, may_cell, room_at_cell, cell_more, may_below, may_round, may_above, upto_first, upto_more, upto_known, all_round, HasLookedUpto}
use Rattle.grid_index.proofs.Searches.{cut_of}
use Rattle.grid_index.proofs.grid.Grid.look_round.Goals as goal

pub look_in_box-requires : goal.look_in_box-requires
look_in_box-requires g c =
    let G = c.args.self.now in
    let P = c.args.point.now in
    let count = G.cells.per_axis ^ g.row.D in
    let outer = c.args.within.planes in
    let known = c.args.known.planes in
    let n = c.requires.may.nested in
    let m = c.requires.may.nested.4 in
    let k = m.4 in
    let is_rows : IsSpan c.args.self.now.cells.per_axis c.args.within.rows = record { ordered = omega (arith, m.0, m.1, m.2); within = m.3 } in
    let is_row : IsSpan c.args.self.now.cells.per_axis c.args.within.row = record { ordered = omega (arith, k.0, k.1, k.2); within = k.3 } in
    (search rules, (search rules, (c.requires.dimensions, (c.requires.few, (is_rows, (is_row, subst (λ (s : Span). MayLook count G P (c.args.within.rows ∷ c.args.within.row ∷ []) 0 s.first s.end c.args.search.now) (sym c.before-below.ensures) (may_below count G P outer known (c.args.within.rows ∷ c.args.within.row ∷ []) (c.args.known.rows ∷ c.args.known.row ∷ []) 0 c.args.search.now c.requires.may)))))))

pub loop-n-init : goal.loop-n-init
loop-n-init g c =
    let G = c.args.self.now in
    let P = c.args.point.now in
    let count = G.cells.per_axis ^ g.row.D in
    let outer = c.args.within.planes in
    let known = c.args.known.planes in
    let n = c.requires.may.nested in
    let below = subst (λ (s : Span). HasLooked G P (c.args.within.rows ∷ c.args.within.row ∷ []) 0 s.first s.end c.args.search.now c.look_in_box.new.search) c.before-below.ensures c.look_in_box.ensures in
    record { from = omega arith; upto = n.1; looked = upto_first G P outer known (c.args.within.rows ∷ c.args.within.row ∷ []) (c.args.known.rows ∷ c.args.known.row ∷ []) 0 c.args.search.now c.look_in_box.new.search below }

pub look_round_plane-requires : goal.look_round_plane-requires
look_round_plane-requires g c =
    let G = c.args.self.now in
    let P = c.args.point.now in
    let count = G.cells.per_axis ^ g.row.D in
    let outer = c.args.within.planes in
    let known = c.args.known.planes in
    let n = c.requires.may.nested in
    let e : 0 * c.args.self.now.cells.per_axis + c.loop-n.n ≡ c.loop-n.n = omega arith in
    let below : c.loop-n.n < known.end = omega arith in
    (search rules, (search rules, (c.requires.dimensions, (omega (arith, below, n.2, n.3, c.requires.few), subst (λ (front : ℕ). MayLookRound count G P (c.args.within.rows ∷ c.args.within.row ∷ []) (c.args.known.rows ∷ c.args.known.row ∷ []) front c.loop-n.search) e (may_round count G P outer known (c.args.within.rows ∷ c.args.within.row ∷ []) (c.args.known.rows ∷ c.args.known.row ∷ []) 0 c.loop-n.n c.args.search.now c.loop-n.search c.requires.may c.loop-n.invariant.from below c.loop-n.invariant.looked)))))

pub loop-n-preserved : goal.loop-n-preserved
loop-n-preserved g c =
    let G = c.args.self.now in
    let P = c.args.point.now in
    let count = G.cells.per_axis ^ g.row.D in
    let outer = c.args.within.planes in
    let known = c.args.known.planes in
    let n = c.requires.may.nested in
    let e : 0 * c.args.self.now.cells.per_axis + c.loop-n.n ≡ c.loop-n.n = omega arith in
    let inv = c.loop-n.invariant in
    record {
      from = omega (arith, inv.from);
      upto = omega arith;
      looked = upto_more G P outer known (c.args.within.rows ∷ c.args.within.row ∷ []) (c.args.known.rows ∷ c.args.known.row ∷ []) 0 c.loop-n.n c.args.search.now c.loop-n.search c.look_round_plane.new.search inv.from inv.looked (subst (λ (front : ℕ). HasLookedRound G P (c.args.within.rows ∷ c.args.within.row ∷ []) (c.args.known.rows ∷ c.args.known.row ∷ []) front c.loop-n.search c.look_round_plane.new.search) (sym e) c.look_round_plane.ensures);
    }

pub look_in_box-requires-2 : goal.look_in_box-requires-2
look_in_box-requires-2 g c =
    let G = c.args.self.now in
    let P = c.args.point.now in
    let count = G.cells.per_axis ^ g.row.D in
    let outer = c.args.within.planes in
    let known = c.args.known.planes in
    let n = c.requires.may.nested in
    let m = c.requires.may.nested.4 in
    let k = m.4 in
    let is_rows : IsSpan c.args.self.now.cells.per_axis c.args.within.rows = record { ordered = omega (arith, m.0, m.1, m.2); within = m.3 } in
    let is_row : IsSpan c.args.self.now.cells.per_axis c.args.within.row = record { ordered = omega (arith, k.0, k.1, k.2); within = k.3 } in
    let same : c.loop-n.n ≡ known.end = omega (arith, c.loop-n.invariant.upto) in
    let upto = subst (λ (k : ℕ). HasLookedUpto G P outer known (c.args.within.rows ∷ c.args.within.row ∷ []) (c.args.known.rows ∷ c.args.known.row ∷ []) 0 k c.args.search.now c.loop-n.search) same c.loop-n.invariant.looked in
    (search rules, (search rules, (c.requires.dimensions, (c.requires.few, (is_rows, (is_row, subst (λ (s : Span). MayLook count G P (c.args.within.rows ∷ c.args.within.row ∷ []) 0 s.first s.end c.loop-n.search) (sym c.after-above.ensures) (may_above count G P outer known (c.args.within.rows ∷ c.args.within.row ∷ []) (c.args.known.rows ∷ c.args.known.row ∷ []) 0 c.args.search.now c.loop-n.search c.requires.may upto)))))))

pub returns : goal.returns
returns g c =
    let G = c.args.self.now in
    let P = c.args.point.now in
    let count = G.cells.per_axis ^ g.row.D in
    let outer = c.args.within.planes in
    let known = c.args.known.planes in
    let n = c.requires.may.nested in
    let same : c.loop-n.n ≡ known.end = omega (arith, c.loop-n.invariant.upto) in
    let upto = subst (λ (k : ℕ). HasLookedUpto G P outer known (c.args.within.rows ∷ c.args.within.row ∷ []) (c.args.known.rows ∷ c.args.known.row ∷ []) 0 k c.args.search.now c.loop-n.search) same c.loop-n.invariant.looked in
    let above = subst (λ (s : Span). HasLooked G P (c.args.within.rows ∷ c.args.within.row ∷ []) 0 s.first s.end c.loop-n.search c.look_in_box-2.new.search) c.after-above.ensures c.look_in_box-2.ensures in
    all_round count G P outer known (c.args.within.rows ∷ c.args.within.row ∷ []) (c.args.known.rows ∷ c.args.known.row ∷ []) 0 c.args.search.now c.loop-n.search c.look_in_box-2.new.search c.requires.may upto above
