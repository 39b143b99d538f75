use Rattle.std.proofs.Common.{◌≡◌, ℕ, List, length, nat_eq, position, Option, Some, None, is_some, refl, ap, sym, ◌∙◌}
use Rattle.std.proofs.lemmas.Option.{slice_get_read}
use Rattle.participant_waves.proofs.KnownPoints.{received_place, own_within, own_points, own_of_plan, received_within, received_of_plan, received_points}
use Rattle.participant_waves.proofs.known_meshes.known_mesh.Goals as goal

-- where a number was looked for in a list
found : (mesh : ℕ) (numbers list : List ℕ) (place result : Option ℕ) → list ≡ numbers → place ≡ position (nat_eq mesh) list → place ≡ result → position (nat_eq mesh) numbers ≡ result
found mesh numbers list place result same is stands = ap (position (nat_eq mesh)) (sym same) ∙ sym is ∙ stands

pub unwrap-place-requires : goal.unwrap-place-requires
unwrap-place-requires c =
    ap is_some (c.place_in-in-None.ensures ∙ ap (position (nat_eq c.args.mesh)) c.as_slice-in-None.ensures)
    ∙ received_place c.args.plan.now c.args.part c.part-participant.result.now c.part-participant.ensures c.args.mesh c.requires.mesh
    (found c.args.mesh c.part-participant.result.now.provides c.as_slice.result.now c.place_in.result None c.as_slice.ensures c.place_in.ensures c.in-None.is)

pub returns-in-Some-clause-points : goal.returns-in-Some-clause-points
returns-in-Some-clause-points c =
    let is = found c.args.mesh c.part-participant.result.now.provides c.as_slice.result.now c.place_in.result (Some c.in-Some.place) c.as_slice.ensures c.place_in.ensures c.in-Some.is in
    let within = own_within c.args.plan.now c.args.part c.part-participant.result.now c.part-participant.ensures c.args.own.now c.args.received.now c.requires.meshes c.args.mesh c.in-Some.place is in
    own_points c.args.plan.now c.args.part c.part-participant.result.now c.part-participant.ensures c.args.own.now c.args.received.now c.requires.meshes c.args.mesh c.in-Some.place is
    c.index-own-place.result (slice_get_read c.args.own.now (length c.args.own.now) c.in-Some.place c.index-own-place.result refl within c.index-own-place.is)

pub returns-in-Some-clause-of_plan : goal.returns-in-Some-clause-of_plan
returns-in-Some-clause-of_plan c =
    let is = found c.args.mesh c.part-participant.result.now.provides c.as_slice.result.now c.place_in.result (Some c.in-Some.place) c.as_slice.ensures c.place_in.ensures c.in-Some.is in
    let within = own_within c.args.plan.now c.args.part c.part-participant.result.now c.part-participant.ensures c.args.own.now c.args.received.now c.requires.meshes c.args.mesh c.in-Some.place is in
    own_of_plan c.args.plan.now c.args.part c.part-participant.result.now c.part-participant.ensures c.args.own.now c.args.received.now c.requires.meshes c.args.mesh c.in-Some.place is
    c.index-own-place.result (slice_get_read c.args.own.now (length c.args.own.now) c.in-Some.place c.index-own-place.result refl within c.index-own-place.is)

pub returns-in-None-clause-points : goal.returns-in-None-clause-points
returns-in-None-clause-points c =
    let none = found c.args.mesh c.part-participant.result.now.provides c.as_slice.result.now c.place_in.result None c.as_slice.ensures c.place_in.ensures c.in-None.is in
    let is = found c.args.mesh c.part-participant.result.now.receives c.as_slice-in-None.result.now c.place_in-in-None.result (Some c.unwrap-place.result) c.as_slice-in-None.ensures c.place_in-in-None.ensures c.unwrap-place.ensures in
    let within = received_within c.args.plan.now c.args.part c.part-participant.result.now c.part-participant.ensures c.args.own.now c.args.received.now c.requires.meshes c.args.mesh none c.unwrap-place.result is in
    received_points c.args.plan.now c.args.part c.part-participant.result.now c.part-participant.ensures c.args.own.now c.args.received.now c.requires.meshes c.args.mesh none c.unwrap-place.result is
    c.parts-parts.ensures.valid c.index-received-place.result
    (slice_get_read c.args.received.now (length c.args.received.now) c.unwrap-place.result c.index-received-place.result refl within c.index-received-place.is)

pub returns-in-None-clause-of_plan : goal.returns-in-None-clause-of_plan
returns-in-None-clause-of_plan c =
    let none = found c.args.mesh c.part-participant.result.now.provides c.as_slice.result.now c.place_in.result None c.as_slice.ensures c.place_in.ensures c.in-None.is in
    let is = found c.args.mesh c.part-participant.result.now.receives c.as_slice-in-None.result.now c.place_in-in-None.result (Some c.unwrap-place.result) c.as_slice-in-None.ensures c.place_in-in-None.ensures c.unwrap-place.ensures in
    let within = received_within c.args.plan.now c.args.part c.part-participant.result.now c.part-participant.ensures c.args.own.now c.args.received.now c.requires.meshes c.args.mesh none c.unwrap-place.result is in
    received_of_plan c.args.plan.now c.args.part c.part-participant.result.now c.part-participant.ensures c.args.own.now c.args.received.now c.requires.meshes c.args.mesh none c.unwrap-place.result is
    c.index-received-place.result
    (slice_get_read c.args.received.now (length c.args.received.now) c.unwrap-place.result c.index-received-place.result refl within c.index-received-place.is)
