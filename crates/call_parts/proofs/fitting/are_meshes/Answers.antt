use Rattle.std.proofs.Common.{◌≡◌, ℕ, ◌<◌, List, [], length, get_or, slice_get, refl, ap, sym, ◌∙◌, arith}
use Rattle.std.specs.Option.{option_map_or}
use Rattle.std.proofs.lemmas.Option.{slice_get-get_or, slice_get_read, slice_get_within}
use Rattle.cpl_plan.specs.declared.parts.Part.{Part}
use Rattle.wave_coupling.specs.Known.{received_meshes}
use Rattle.event_fits.proofs.Provided.{provided_more}
use Rattle.call_parts.proofs.fitting.are_meshes.Goals as goal

pub loop-i-preserved : goal.loop-i-preserved
loop-i-preserved c =
    let numbers = c.as_slice-numbers.result.now in
    let i = c.loop-i.i in
    let below : i < length numbers = omega arith in
    provided_more c.args.plan.now numbers c.args.meshes.now i (get_or numbers i 0) c.index-meshes-i.result (slice_get-get_or numbers i 0 below)
    (slice_get_read c.args.meshes.now (length c.args.meshes.now) i c.index-meshes-i.result refl (omega arith) c.index-meshes-i.is)
    (c.is_of_plan.ensures c.if-not-is_of_plan.false) c.loop-i.invariant

pub returns : goal.returns
returns c = λ yes course.
    let numbers = c.as_slice-numbers.result.now in
    let are : numbers ≡ received_meshes c.args.plan.now c.args.part =
    c.as_slice-numbers.ensures ∙ sym (ap (λ o. option_map_or (λ (p : Part). p.receives) o []) c.part.ensures) in
    record {
      count = c.if-meshes-numbers.false ∙ ap (λ (ns : List ℕ). length ns) are;
      each = λ j number mesh is_number is_mesh.
          let at = ap (λ (ns : List ℕ). slice_get ns j) are ∙ is_number in
          let below = slice_get_within numbers j number at in
          c.loop-i.invariant j number mesh (omega (arith, below)) at is_mesh;
    }
