use Rattle.std.proofs.Common.{◌≡◌, ◌^◌, ◌<◌, ℕ, List, get_or, length, sym, ap, ◌∙◌, arith, rules}
use Rattle.grid_index.specs.Cells.{Cells, AreCellsOf}
use Rattle.grid_index.specs.Places.{places_in}
use Rattle.grid_index.proofs.Searches.{places_below}
use Rattle.grid_index.proofs.grid.Grid.build.Goals as goal

pub chains_of-requires-clause-cells : goal.chains_of-requires-clause-cells
chains_of-requires-clause-cells g c k d within =
    let cells : Cells = record { per_axis = c.cells_per_axis-per_axis.result; axes = c.axes_on-axes.result } in
    let are : AreCellsOf g.row.D c.args.mesh.now cells = record {
      few = omega (arith, c.cells_per_axis-per_axis.ensures.few, c.len.ensures.count);
      most = omega (arith, c.cells_per_axis-per_axis.ensures.most, c.len.ensures.count);
      axes = c.axes_on-axes.ensures;
    } in
    let same : c.deref.result.now ≡ places_in cells c.args.mesh.now = c.deref.ensures.value ∙ c.in_ok-places.ensures in
    let here = ap (λ (l : List ℕ). get_or l k d) same in
    let all = ap length same in
    let below = places_below g.row.D c.args.mesh.now cells c.requires.dimensions c.len.ensures.mesh are k d (omega (arith, all, within)) in
    omega (arith, here, below, c.pow.ensures)
