use Rattle.std.proofs.Common.{◌≡◌, ℕ, ◌+◌, ◌-◌, ◌<◌, ◌≤◌, List, ℤ, length, get_or, subst, sym, ap, ◌∙◌, inl, inr, arith, rules}
use Rattle.std.proofs.lemmas.Bool.{cases_lt}
use Rattle.std.proofs.lemmas.List.{length-map}
use Rattle.grid_index.specs.Candidates.{Improves, GoesBefore}
use Rattle.grid_index.specs.Chains.{IsEndBelow}
use Rattle.grid_index.specs.Places.{places_in, place_in}
use Rattle.grid_index.proofs.Chained.{count_below, count_below-end, count_below-more, count_below-all}
use Rattle.grid_index.proofs.Ranks.{improves-none, improves-then}
use Rattle.grid_index.proofs.grid.Grid.look_at_cell.Goals as goal

pub loop-end-init : goal.loop-end-init
loop-end-init g c =
    let mesh = c.args.self.now.mesh in
    let places = places_in c.args.self.now.cells mesh in
    let vertices = length-map mesh (place_in c.args.self.now.cells) in
    let ended = c.end_of_cell-end.ensures.chain in
    let all = ap (count_below places c.args.cell) (sym vertices) ∙ count_below-all places c.args.cell in
    record {
      within = ended.within;
      last = ended.last;
      steps = omega (arith, c.end_of_cell-end.ensures.step, all, count_below-end places c.args.cell (length mesh) c.end_of_cell-end.result (omega (arith, vertices)) ended);
      improved = subst (Improves mesh c.args.point.now c.args.search.now.best) (sym c.end_of_cell-end.ensures.best) (improves-none mesh c.args.point.now c.args.search.now.best c.requires.found);
      looked = λ u low high at. absurd (ended.none_after u low high at);
    }

pub look_at_vertex-end-requires : goal.look_at_vertex-end-requires
look_at_vertex-end-requires g c =
    let mesh = c.args.self.now.mesh in
    let places = places_in c.args.self.now.cells mesh in
    let vertices = length-map mesh (place_in c.args.self.now.cells) in
    let inv = c.loop-end.invariant in
    let v = c.loop-end.end - 1 in
    let one : c.loop-end.end ≡ v + 1 = omega arith in
    let more = ap (count_below places c.args.cell) one ∙ count_below-more places c.args.cell v (omega (arith, vertices, inv.within)) (inv.last v one) in
    (search rules, (search rules, (c.requires.dimensions, (omega (arith, inv.within), (inv.improved.found, omega (arith, inv.steps, more, c.requires.room))))))

pub loop-end-preserved : goal.loop-end-preserved
loop-end-preserved g c =
    let mesh = c.args.self.now.mesh in
    let point = c.args.point.now in
    let places = places_in c.args.self.now.cells mesh in
    let vertices = length-map mesh (place_in c.args.self.now.cells) in
    let inv = c.loop-end.invariant in
    let seen = c.look_at_vertex-end in
    let v = c.loop-end.end - 1 in
    let one : c.loop-end.end ≡ v + 1 = omega arith in
    let here = inv.last v one in
    let inside : v < length places = omega (arith, vertices, inv.within) in
    let more = ap (count_below places c.args.cell) one ∙ count_below-more places c.args.cell v inside here in
    let chain = subst (λ (cell : ℕ). IsEndBelow places cell v seen.result) here seen.ensures.chain in
    record {
      within = omega (arith, chain.within, vertices);
      last = chain.last;
      steps = omega (arith, inv.steps, more, count_below-end places c.args.cell v seen.result (omega arith) chain, seen.ensures.step);
      improved = improves-then mesh point c.args.search.now.best c.loop-end.search.best seen.new.search.best inv.improved seen.ensures.improved;
      looked = λ u low high at. elim (cases_lt u v) [
        | inl before ↦ absurd (chain.none_after u low before at)
        | inr past ↦ elim (cases_lt v u) [
          | inl later ↦ seen.ensures.improved.kept u (inv.looked u (omega arith) high at)
          | inr same ↦ let e : v ≡ u = omega arith in subst (GoesBefore mesh point seen.new.search.best) e seen.ensures.looked
        ]
      ];
    }
