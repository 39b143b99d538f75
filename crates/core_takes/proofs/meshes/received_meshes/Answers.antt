use Rattle.std.proofs.Common.{◌++◌, List, Option, take, filter_map, ap, sym, ◌∙◌, arith}
use Rattle.std.proofs.lemmas.List.{take_all}
use Rattle.std.specs.Prelude.{option_to_list}
use Rattle.std.specs.Option.{option_copied}
use Rattle.std.proofs.lemmas.Option.{slice_get-get_or}
use Rattle.mesh_data.specs.declared.any_mesh.AnyMesh.{AnyMesh}
use Rattle.core_sides.specs.PostedMeshes.{mesh_posted}
use Rattle.core_takes.proofs.Collecting.{filter_map-more, collected_is}
use Rattle.core_takes.proofs.meshes.received_meshes.Goals as goal

pub loop-i-preserved : goal.loop-i-preserved
loop-i-preserved c = λ state are.
    let f = mesh_posted c.args.plan.now state in
    let numbers = c.as_slice-numbers.result.now in
    c.in_ok-push_copy.ensures ∙ ap (λ (ms : List AnyMesh). ms ++ option_to_list (option_copied c.posted_mesh.result)) (c.loop-i.invariant state are)
    ∙ ap (λ (o : Option AnyMesh). filter_map f (take c.loop-i.i numbers) ++ option_to_list o) (c.posted_mesh.ensures state are)
    ∙ sym (filter_map-more f numbers c.loop-i.i _ (slice_get-get_or numbers c.loop-i.i 0 c.loop-i-test.true))

pub returns : goal.returns
returns c = record {
  collected = λ state are sent.
      let f = mesh_posted c.args.plan.now state in
      let numbers = c.as_slice-numbers.result.now in
      c.from_vec.ensures ∙ c.loop-i.invariant state are
      ∙ ap (filter_map f) (take_all c.loop-i.i numbers (omega (arith, c.loop-i-test.false))) ∙ ap (filter_map f) c.as_slice-numbers.ensures
      ∙ collected_is c.args.plan.now state c.args.p c.part.result.now c.parts-valid.ensures.valid c.part.ensures sent;
}
