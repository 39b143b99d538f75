use Rattle.std.proofs.Common.{◌≡◌, ℕ, ◌<◌, ◌≤◌, ◌^◌, length, pos, get_or, arith, rules}
use Rattle.std.proofs.lemmas.List.Elements.{All-get_or}
use Rattle.grid_index.specs.Block.{least_width}
use Rattle.grid_index.specs.declared.axis.Axis.{Axis}
use Rattle.grid_index.proofs.Vertices.{cells_cut, least_width-le, least_width-some}
use Rattle.grid_index.proofs.grid.Grid.farther.Goals as goal

pub farther-requires-clause-width : goal.farther-requires-clause-width
farther-requires-clause-width g c =
    let grid = c.self.invariant.gridded in
    let cut = cells_cut g.row.D _ _ c.requires.dimensions grid.mesh grid.some grid.cells in
    omega (arith, c.least_width.ensures, least_width-some c.self.inside.axes (omega (arith, cut.one_for_each, c.requires.dimensions)) cut.wide)

pub farther-requires-clause-narrow : goal.farther-requires-clause-narrow
farther-requires-clause-narrow g c =
    let grid = c.self.invariant.gridded in
    let cut = cells_cut g.row.D _ _ c.requires.dimensions grid.mesh grid.some grid.cells in
    let none : Axis = record { least = pos 0; width = 0 } in
    let some : 0 < length c.self.inside.axes = omega (arith, cut.one_for_each, c.requires.dimensions) in
    let least = All-get_or (λ (axis : Axis). least_width c.self.inside.axes ≤ axis.width) c.self.inside.axes 0 none some (least_width-le c.self.inside.axes) in
    omega (arith, c.least_width.ensures, least, All-get_or (λ (axis : Axis). axis.width ≤ 10 ^ 13) c.self.inside.axes 0 none some cut.narrow)
