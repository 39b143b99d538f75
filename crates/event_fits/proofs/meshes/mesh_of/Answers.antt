use Rattle.std.proofs.Common.{List, Option, sym, ap, ◌∙◌}
use Rattle.std.specs.Option.{option_and_then, option_copied}
use Rattle.mesh_data.specs.declared.any_mesh.AnyMesh.{AnyMesh}
use Rattle.core_sides.specs.PostedMeshes.{mesh_among}
use Rattle.event_fits.proofs.meshes.mesh_of.Goals as goal

pub returns-in-Some : goal.returns-in-Some
returns-in-Some c = λ state are.
    let f = mesh_among c.args.plan.now c.args.owner c.args.number in
    c.mesh_among.ensures ∙ ap f c.as_slice.ensures
    ∙ sym (ap (λ (o : Option (List AnyMesh)). option_and_then f o) (sym (c.sent_by.ensures c.args.plan.now state are) ∙ ap option_copied c.in-Some.is))

pub returns-in-None : goal.returns-in-None
returns-in-None c = λ state are.
    let f = mesh_among c.args.plan.now c.args.owner c.args.number in
    sym (ap (λ (o : Option (List AnyMesh)). option_and_then f o) (sym (c.sent_by.ensures c.args.plan.now state are) ∙ ap option_copied c.in-None.is))
