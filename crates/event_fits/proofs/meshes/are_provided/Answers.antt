use Rattle.std.proofs.Common.{◌≡◌, ◌<◌, length, get_or, true, refl, arith}
use Rattle.std.proofs.lemmas.Option.{slice_get-get_or, slice_get_read}
use Rattle.event_fits.proofs.Provided.{provided_more, provided_all}
use Rattle.event_fits.proofs.meshes.are_provided.Goals as goal

pub loop-i-preserved : goal.loop-i-preserved
loop-i-preserved c =
    let numbers = c.provided_by-numbers.result.now in
    let i = c.loop-i.i in
    let below : i < length numbers = omega arith in
    let yes : c.is_of_plan.result ≡ true = cc in
    provided_more c.args.plan.now numbers c.args.meshes.now i (get_or numbers i 0) c.index-meshes-i.result (slice_get-get_or numbers i 0 below)
    (slice_get_read c.args.meshes.now (length c.args.meshes.now) i c.index-meshes-i.result refl (omega arith) c.index-meshes-i.is)
    (c.is_of_plan.ensures yes) c.loop-i.invariant

pub returns : goal.returns
returns c = λ yes. provided_all c.args.plan.now c.provided_by-numbers.result.now c.args.meshes.now c.args.p c.loop-i.i c.provided_by-numbers.ensures
    (omega arith) (omega arith) c.loop-i.invariant
