use Rattle.std.proofs.Common.{option_map, slice_get}
use Rattle.std.proofs.lemmas.Option.{slice_get-get_or}
use Rattle.core_sides.specs.KeptSides.{kept_ended, kept_sent}
use Rattle.core_sides.proofs.Searches.{pick_more}
use Rattle.core_sides.proofs.sides.Sides.owners_among.Goals as goal

pub loop-mesh-preserved : goal.loop-mesh-preserved
loop-mesh-preserved c =
    rw c.and_owner-search.ensures
    (pick_more (kept_ended c.args.self.now) (kept_sent c.args.self.now) (λ mesh. option_map (λ m. m.owner) (slice_get c.args.plan.now.meshes mesh)) c.args.meshes.now c.loop-mesh.mesh-index
    c.loop-mesh.search _ _ (slice_get-get_or c.args.meshes.now c.loop-mesh.mesh-index 0 c.loop-mesh-test.true) c.loop-mesh.invariant)
