use Rattle.std.proofs.Common.{◌≡◌, ℕ, ◌-◌, ◌+◌, ◌<◌, ◌≤◌, length, pos, get_or, sym, ap, ◌∙◌, arith, rules}
use Rattle.std.proofs.lemmas.List.Elements.{All-get_or}
use Rattle.fixed_num.specs.Numbers.{IsCoordinate}
use Rattle.grid_index.specs.Boxes.{box_within}
use Rattle.grid_index.specs.GriddedMesh.{IsGridded}
use Rattle.grid_index.specs.declared.axis.Axis.{Axis}
use Rattle.grid_index.proofs.Blocks.{length-box}
use Rattle.grid_index.proofs.Padding.{padded-is, three}
use Rattle.grid_index.proofs.Reaches.{get_or-box}
use Rattle.grid_index.proofs.Searches.{cut_of}
use Rattle.grid_index.proofs.Vertices.{cells_cut}
use Rattle.grid_index.proofs.grid.Grid.box_within.Goals as goal

pub span_within-requires-clause-cells : goal.span_within-requires-clause-cells
span_within-requires-clause-cells g c =
    let grid = c.self.invariant.gridded in (cells_cut g.row.D _ _ c.requires.dimensions grid.mesh grid.some grid.cells).small

pub span_within-requires-clause-width : goal.span_within-requires-clause-width
span_within-requires-clause-width g c =
    let grid = c.self.invariant.gridded in
    let cut = cells_cut g.row.D _ _ c.requires.dimensions grid.mesh grid.some grid.cells in
    All-get_or (λ (axis : Axis). 0 < axis.width) c.self.inside.axes c.loop-i.i (record { least = pos 0; width = 0 }) (omega (arith, cut.one_for_each)) cut.wide

pub span_within-requires-clause-least : goal.span_within-requires-clause-least
span_within-requires-clause-least g c =
    let grid = c.self.invariant.gridded in
    let cut = cells_cut g.row.D _ _ c.requires.dimensions grid.mesh grid.some grid.cells in
    All-get_or (λ (axis : Axis). IsCoordinate axis.least) c.self.inside.axes c.loop-i.i (record { least = pos 0; width = 0 }) (omega (arith, cut.one_for_each)) cut.least

pub returns-clause-spans : goal.returns-clause-spans
returns-clause-spans g c =
    let grid : IsGridded g.row.D c.args.self.now = search rules in
    let cut = cut_of g.row.D c.args.self.now c.requires.dimensions grid in
    let inv = c.loop-i.invariant in
    let none : Axis = record { least = pos 0; width = 0 } in
    let axes = c.args.self.now.cells.axes in
    let box = box_within c.args.self.now.cells.per_axis c.args.reach axes c.args.point.now in
    let same : length axes ≡ g.row.D = cut.one_for_each in
    let alike = same ∙ sym c.at-at.ensures.point.one_for_each in
    let len = length-box c.args.self.now.cells.per_axis c.args.reach axes c.args.point.now alike in
    three c.loop-i.spans (record { first = 0; end = 0 }) inv.len
    ∙ padded-is c.loop-i.spans (3 - g.row.D) box (omega (arith, inv.len, len, same, c.requires.dimensions)) inv.front
    (λ k d inside.
    let on : k < length axes = omega (arith, len, inside) in
    inv.each k d (omega (arith, on, same))
    ∙ sym (get_or-box c.args.self.now.cells.per_axis c.args.reach axes c.args.point.now k d none alike on))
