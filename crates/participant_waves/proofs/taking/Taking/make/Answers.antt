use Rattle.std.proofs.Common.{refl, ap, sym, subst, ◌∙◌}
use Rattle.wave_coupling.specs.Known.{map_at, points_of, read_mesh}
use Rattle.participant_words.specs.KnownByReply.{known_by}
use Rattle.participant_waves.specs.KnownMeshes.{IsMeshOf, IsKnownTo}
use Rattle.participant_waves.proofs.PlanSays.{reader_told, joined_alike}
use Rattle.participant_waves.proofs.ExchangeMade.{sources_made, mapped_made, taking_is}
use Rattle.participant_waves.proofs.taking.Taking.make.Goals as goal

pub known_mesh-from-requires-clause-mesh : goal.known_mesh-from-requires-clause-mesh
known_mesh-from-requires-clause-mesh c =
    let told = reader_told c.args.plan.now c.args.x c.args.part c.exchange.result.now c.parts-parts.ensures.valid c.exchange.ensures c.requires.reader in told.mesh

pub known_mesh-to-requires-clause-mesh : goal.known_mesh-to-requires-clause-mesh
known_mesh-to-requires-clause-mesh c =
    let told = reader_told c.args.plan.now c.args.x c.args.part c.exchange.result.now c.parts-parts.ensures.valid c.exchange.ensures c.requires.reader in
    subst (λ mesh. IsKnownTo c.args.plan.now c.args.part mesh) (sym c.read_mesh-mesh.ensures) told.read_on

pub build_map-requires-clause-alike : goal.build_map-requires-clause-alike
build_map-requires-clause-alike c =
    let told = reader_told c.args.plan.now c.args.x c.args.part c.exchange.result.now c.parts-parts.ensures.valid c.exchange.ensures c.requires.reader in
    joined_alike c.args.plan.now (map_at c.args.plan.now c.args.part c.exchange.result.now.read_map) c.exchange.result.now.mesh (read_mesh c.args.plan.now c.args.part c.exchange.result.now)
    c.known_mesh-from.result.now c.known_mesh-to.result.now told.joins c.known_mesh-from.ensures.of_plan
    (subst (λ mesh. IsMeshOf c.args.plan.now mesh c.known_mesh-to.result.now) c.read_mesh-mesh.ensures c.known_mesh-to.ensures.of_plan)

pub returns-clause-taking : goal.returns-clause-taking
returns-clause-taking c =
    let told = reader_told c.args.plan.now c.args.x c.args.part c.exchange.result.now c.parts-parts.ensures.valid c.exchange.ensures c.requires.reader in
    let known = known_by c.args.plan.now c.args.part c.args.own.now c.args.received.now in
    let to_is = ap (points_of c.args.plan.now c.args.part known) (sym c.read_mesh-mesh.ensures) ∙ c.known_mesh-to.ensures.points in
    taking_is c.args.plan.now c.args.part known c.args.x c.exchange.result.now c.in_ok-build_map.field-0 c.exchange.ensures
    (sources_made c.args.plan.now c.args.part known (map_at c.args.plan.now c.args.part c.exchange.result.now.read_map) c.map_at.result c.map_at.ensures
    c.exchange.result.now.mesh (read_mesh c.args.plan.now c.args.part c.exchange.result.now) c.exchange.result.now.mesh c.known_mesh-from.result.now c.known_mesh-to.result.now refl
    c.known_mesh-from.ensures.points to_is c.in_ok-build_map.field-0 c.in_ok-build_map.ensures.sources)
    (mapped_made c.args.plan.now c.args.part known (map_at c.args.plan.now c.args.part c.exchange.result.now.read_map) c.map_at.result c.map_at.ensures
    c.exchange.result.now.mesh (read_mesh c.args.plan.now c.args.part c.exchange.result.now) c.exchange.result.now.mesh c.known_mesh-from.result.now c.known_mesh-to.result.now refl
    c.known_mesh-from.ensures.points to_is c.in_ok-build_map.field-0 c.in_ok-build_map.ensures.mapped)
