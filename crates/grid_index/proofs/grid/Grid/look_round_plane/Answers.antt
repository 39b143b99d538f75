use Rattle.std.proofs.Common.{◌≡◌, ℕ, ◌+◌, ◌*◌, ◌^◌, ◌<◌, ◌≤◌, [], ◌∷◌, subst, sym, ap, ◌∙◌, arith, rules}
use Rattle.std.proofs.lemmas.Nat.{mul-le}
use Rattle.grid_index.specs.Boxes.{IsSpan}
use Rattle.grid_index.specs.Looking.{MayLook, HasLooked, MayLookRound, HasLookedRound, cost_in}
use Rattle.grid_index.specs.declared.spans.Span.{Span}
use Rattle.grid_index.proofs.Looks.{looked_none, may_here, looked_more, may_cell, room_at_cell, cell_more, may_below, may_round, may_above, upto_first, upto_more, upto_known, all_round, HasLookedUpto}
use Rattle.grid_index.proofs.Searches.{cut_of}
use Rattle.grid_index.proofs.grid.Grid.look_round_plane.Goals as goal

pub look_in_plane-requires : goal.look_in_plane-requires
look_in_plane-requires g c =
    let G = c.args.self.now in
    let P = c.args.point.now in
    let count = G.cells.per_axis ^ g.row.D in
    let outer = c.args.within.rows in
    let known = c.args.known.rows in
    let n = c.requires.may.nested in
    let m = c.requires.may.nested.4 in
    let is_row : IsSpan c.args.self.now.cells.per_axis c.args.within.row = record { ordered = omega (arith, m.0, m.1, m.2); within = m.3 } in
    (search rules, (search rules, (c.requires.dimensions, (c.requires.front, (is_row, subst (λ (s : Span). MayLook count G P (c.args.within.row ∷ []) c.args.front s.first s.end c.args.search.now) (sym c.before-below.ensures) (may_below count G P outer known (c.args.within.row ∷ []) (c.args.known.row ∷ []) c.args.front c.args.search.now c.requires.may))))))

pub loop-n-init : goal.loop-n-init
loop-n-init g c =
    let G = c.args.self.now in
    let P = c.args.point.now in
    let count = G.cells.per_axis ^ g.row.D in
    let outer = c.args.within.rows in
    let known = c.args.known.rows in
    let n = c.requires.may.nested in
    let below = subst (λ (s : Span). HasLooked G P (c.args.within.row ∷ []) c.args.front s.first s.end c.args.search.now c.look_in_plane.new.search) c.before-below.ensures c.look_in_plane.ensures in
    record { from = omega arith; upto = n.1; looked = upto_first G P outer known (c.args.within.row ∷ []) (c.args.known.row ∷ []) c.args.front c.args.search.now c.look_in_plane.new.search below }

pub overflow_mul-row : goal.overflow_mul-row
overflow_mul-row g c =
    let cut = cut_of g.row.D c.args.self.now c.requires.dimensions c.per_axis.ensures.gridded in
    let below : c.loop-n.n < c.args.known.rows.end = omega arith in
    let bound = mul-le c.args.front c.per_axis.result (10 ^ 4) (10 ^ 4) c.requires.front (omega (arith, c.per_axis.ensures.value, cut.small)) in
    omega (arith, bound)

pub overflow_add-row : goal.overflow_add-row
overflow_add-row g c =
    let cut = cut_of g.row.D c.args.self.now c.requires.dimensions c.per_axis.ensures.gridded in
    let below : c.loop-n.n < c.args.known.rows.end = omega arith in
    let bound = mul-le c.args.front c.per_axis.result (10 ^ 4) (10 ^ 4) c.requires.front (omega (arith, c.per_axis.ensures.value, cut.small)) in
    omega (arith, bound, below, c.requires.may.nested.2, c.requires.may.nested.3, cut.small)

pub look_round_row-requires : goal.look_round_row-requires
look_round_row-requires g c =
    let G = c.args.self.now in
    let P = c.args.point.now in
    let count = G.cells.per_axis ^ g.row.D in
    let outer = c.args.within.rows in
    let known = c.args.known.rows in
    let n = c.requires.may.nested in
    let e = c.per_axis.ensures.value in
    let cut = cut_of g.row.D G c.requires.dimensions c.per_axis.ensures.gridded in
    let bound = mul-le c.args.front c.per_axis.result (10 ^ 4) (10 ^ 4) c.requires.front (omega (arith, e, cut.small)) in
    let below : c.loop-n.n < known.end = omega arith in
    (search rules, (search rules, (c.requires.dimensions, (omega (arith, bound, below, n.2, n.3, cut.small), subst (λ (q : ℕ). MayLookRound count G P (c.args.within.row ∷ []) (c.args.known.row ∷ []) (c.args.front * q + c.loop-n.n) c.loop-n.search) (sym e) (may_round count G P outer known (c.args.within.row ∷ []) (c.args.known.row ∷ []) c.args.front c.loop-n.n c.args.search.now c.loop-n.search c.requires.may c.loop-n.invariant.from below c.loop-n.invariant.looked)))))

pub loop-n-preserved : goal.loop-n-preserved
loop-n-preserved g c =
    let G = c.args.self.now in
    let P = c.args.point.now in
    let count = G.cells.per_axis ^ g.row.D in
    let outer = c.args.within.rows in
    let known = c.args.known.rows in
    let n = c.requires.may.nested in
    let e = c.per_axis.ensures.value in
    let inv = c.loop-n.invariant in
    record {
      from = omega (arith, inv.from);
      upto = omega arith;
      looked = upto_more G P outer known (c.args.within.row ∷ []) (c.args.known.row ∷ []) c.args.front c.loop-n.n c.args.search.now c.loop-n.search c.look_round_row.new.search inv.from inv.looked (subst (λ (q : ℕ). HasLookedRound G P (c.args.within.row ∷ []) (c.args.known.row ∷ []) (c.args.front * q + c.loop-n.n) c.loop-n.search c.look_round_row.new.search) e c.look_round_row.ensures);
    }

pub look_in_plane-requires-2 : goal.look_in_plane-requires-2
look_in_plane-requires-2 g c =
    let G = c.args.self.now in
    let P = c.args.point.now in
    let count = G.cells.per_axis ^ g.row.D in
    let outer = c.args.within.rows in
    let known = c.args.known.rows in
    let n = c.requires.may.nested in
    let m = c.requires.may.nested.4 in
    let is_row : IsSpan c.args.self.now.cells.per_axis c.args.within.row = record { ordered = omega (arith, m.0, m.1, m.2); within = m.3 } in
    let same : c.loop-n.n ≡ known.end = omega (arith, c.loop-n.invariant.upto) in
    let upto = subst (λ (k : ℕ). HasLookedUpto G P outer known (c.args.within.row ∷ []) (c.args.known.row ∷ []) c.args.front k c.args.search.now c.loop-n.search) same c.loop-n.invariant.looked in
    (search rules, (search rules, (c.requires.dimensions, (c.requires.front, (is_row, subst (λ (s : Span). MayLook count G P (c.args.within.row ∷ []) c.args.front s.first s.end c.loop-n.search) (sym c.after-above.ensures) (may_above count G P outer known (c.args.within.row ∷ []) (c.args.known.row ∷ []) c.args.front c.args.search.now c.loop-n.search c.requires.may upto))))))

pub returns : goal.returns
returns g c =
    let G = c.args.self.now in
    let P = c.args.point.now in
    let count = G.cells.per_axis ^ g.row.D in
    let outer = c.args.within.rows in
    let known = c.args.known.rows in
    let n = c.requires.may.nested in
    let same : c.loop-n.n ≡ known.end = omega (arith, c.loop-n.invariant.upto) in
    let upto = subst (λ (k : ℕ). HasLookedUpto G P outer known (c.args.within.row ∷ []) (c.args.known.row ∷ []) c.args.front k c.args.search.now c.loop-n.search) same c.loop-n.invariant.looked in
    let above = subst (λ (s : Span). HasLooked G P (c.args.within.row ∷ []) c.args.front s.first s.end c.loop-n.search c.look_in_plane-2.new.search) c.after-above.ensures c.look_in_plane-2.ensures in
    all_round count G P outer known (c.args.within.row ∷ []) (c.args.known.row ∷ []) c.args.front c.args.search.now c.loop-n.search c.look_in_plane-2.new.search c.requires.may upto above
