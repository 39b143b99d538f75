use Rattle.std.proofs.Common.{◌≡◌, take}
use Rattle.grid_index.specs.Places.{places_in}
use Rattle.grid_index.proofs.grid.places_of.Given as goal

abbrev pub invariant-loop-v : goal.invariant-loop-v
invariant-loop-v g l = l.places.items ≡ take l.v (places_in (record { per_axis = l.per_axis; axes = l.axes }) l.mesh)
