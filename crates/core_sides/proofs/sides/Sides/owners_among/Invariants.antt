use Rattle.std.proofs.Common.{◌≡◌, map, drop, filter_map, option_map, slice_get}
use Rattle.core_sides.specs.Searched.{searched, and_further}
use Rattle.core_sides.specs.KeptSides.{kept_ended, kept_sent}
use Rattle.core_sides.proofs.sides.Sides.owners_among.Given as goal

-- what is found so far, and then among the rest, is what is found among all
abbrev pub invariant-loop-mesh : goal.invariant-loop-mesh
invariant-loop-mesh l =
    and_further l.search (searched (kept_ended l.self) (map (λ owner. (owner, kept_sent l.self owner)) (filter_map (λ mesh. option_map (λ m. m.owner) (slice_get l.plan.meshes mesh)) (drop l.mesh-index l.meshes))))
    ≡ searched (kept_ended l.self) (map (λ owner. (owner, kept_sent l.self owner)) (filter_map (λ mesh. option_map (λ m. m.owner) (slice_get l.plan.meshes mesh)) l.meshes))
