use Rattle.std.proofs.Common.{◌≡◌, ◌+◌, ◌^◌, ◌<◌, ◌≤◌, arith}
use Rattle.grid_index.proofs.Powers.{le-power, power_fits, power-one}
use Rattle.grid_index.proofs.axis.cells_per_axis.Goals as goal

pub loop-per_axis-init : goal.loop-per_axis-init
loop-per_axis-init c = record { some = omega arith; few = omega (arith, power-one c.args.dimensions); small = omega arith }

pub pow-requires : goal.pow-requires
pow-requires c = power_fits (c.loop-per_axis.per_axis + 1) c.args.dimensions (omega arith) c.requires.dimensions

pub loop-per_axis-smaller : goal.loop-per_axis-smaller
loop-per_axis-smaller c = let more = le-power (c.loop-per_axis.per_axis + 1) c.args.dimensions (omega arith) c.requires.dimensions in omega (arith, more)

pub loop-per_axis-preserved : goal.loop-per_axis-preserved
loop-per_axis-preserved c =
    let more = le-power (c.loop-per_axis.per_axis + 1) c.args.dimensions (omega arith) c.requires.dimensions in
    record { some = omega arith; few = omega arith; small = omega (arith, more) }
