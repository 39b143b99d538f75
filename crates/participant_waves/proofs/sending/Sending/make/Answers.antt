use Rattle.std.proofs.Common.{length, ap, sym, subst, ◌∙◌}
use Rattle.wave_coupling.specs.Known.{map_at, write_mesh}
use Rattle.wave_values.proofs.Served.{components_joined}
use Rattle.participant_words.specs.KnownByReply.{known_by}
use Rattle.participant_waves.specs.KnownMeshes.{IsMeshOf, IsKnownTo}
use Rattle.participant_waves.proofs.PlanSays.{sender_told, has_place, place_is, data_within, mesh_within, joined_alike}
use Rattle.participant_waves.proofs.ExchangeMade.{sources_made, mapped_made}
use Rattle.participant_waves.proofs.sending.Sending.make.Goals as goal

pub known_mesh-from-requires-clause-mesh : goal.known_mesh-from-requires-clause-mesh
known_mesh-from-requires-clause-mesh c =
    let told = sender_told c.args.plan.now c.args.x c.args.part c.exchange.result.now c.parts-parts.ensures.valid c.exchange.ensures c.requires.sender in
    subst (λ mesh. IsKnownTo c.args.plan.now c.args.part mesh) (sym c.write_mesh-mesh.ensures) told.written_on

pub known_mesh-to-requires-clause-mesh : goal.known_mesh-to-requires-clause-mesh
known_mesh-to-requires-clause-mesh c =
    let told = sender_told c.args.plan.now c.args.x c.args.part c.exchange.result.now c.parts-parts.ensures.valid c.exchange.ensures c.requires.sender in told.mesh

pub unwrap-entry-requires : goal.unwrap-entry-requires
unwrap-entry-requires c =
    let told = sender_told c.args.plan.now c.args.x c.args.part c.exchange.result.now c.parts-parts.ensures.valid c.exchange.ensures c.requires.sender in
    rw c.place_of.ensures
    (has_place c.args.plan.now c.args.part c.part.result.now c.part.ensures c.exchange.result.now c.as_slice-entries.result.now c.as_slice-entries.ensures
    c.write_mesh-mesh.result c.write_mesh-mesh.ensures told)

pub components-requires-clause-data_item : goal.components-requires-clause-data_item
components-requires-clause-data_item c = data_within c.args.plan.now c.parts-parts.ensures.valid c.args.x c.exchange.result.now c.exchange.ensures

pub components-requires-clause-mesh : goal.components-requires-clause-mesh
components-requires-clause-mesh c = mesh_within c.args.plan.now c.parts-parts.ensures.valid c.args.x c.exchange.result.now c.exchange.ensures

pub build-requires-clause-alike : goal.build-requires-clause-alike
build-requires-clause-alike c =
    let told = sender_told c.args.plan.now c.args.x c.args.part c.exchange.result.now c.parts-parts.ensures.valid c.exchange.ensures c.requires.sender in
    joined_alike c.args.plan.now (map_at c.args.plan.now c.args.part c.exchange.result.now.write_map) (write_mesh c.args.plan.now c.args.part c.exchange.result.now) c.exchange.result.now.mesh
    c.known_mesh-from.result.now c.known_mesh-to.result.now told.joins
    (subst (λ mesh. IsMeshOf c.args.plan.now mesh c.known_mesh-from.result.now) c.write_mesh-mesh.ensures c.known_mesh-from.ensures.of_plan) c.known_mesh-to.ensures.of_plan

pub returns-clause-sending : goal.returns-clause-sending
returns-clause-sending c =
    let told = sender_told c.args.plan.now c.args.x c.args.part c.exchange.result.now c.parts-parts.ensures.valid c.exchange.ensures c.requires.sender in
    let known = known_by c.args.plan.now c.args.part c.args.own.now c.args.received.now in
    record {
      exchange = c.exchange.ensures;
      entry = place_is c.args.plan.now c.args.part c.part.result.now c.part.ensures c.exchange.result.now c.as_slice-entries.result.now c.as_slice-entries.ensures
          c.write_mesh-mesh.result c.write_mesh-mesh.ensures c.unwrap-entry.result (sym c.place_of.ensures ∙ c.unwrap-entry.ensures);
      components = c.components.ensures;
      written = components_joined c.args.plan.now (map_at c.args.plan.now c.args.part c.exchange.result.now.write_map) c.exchange.result.now.data_id
          (write_mesh c.args.plan.now c.args.part c.exchange.result.now) c.exchange.result.now.mesh told.joins ∙ c.components.ensures;
      vertices = ap length c.known_mesh-to.ensures.points ∙ sym c.len.ensures.count;
      sources = sources_made c.args.plan.now c.args.part known (map_at c.args.plan.now c.args.part c.exchange.result.now.write_map) c.map_at.result c.map_at.ensures
          (write_mesh c.args.plan.now c.args.part c.exchange.result.now) c.exchange.result.now.mesh c.write_mesh-mesh.result c.known_mesh-from.result.now c.known_mesh-to.result.now c.write_mesh-mesh.ensures
          c.known_mesh-from.ensures.points c.known_mesh-to.ensures.points c.in_ok-build.field-0 c.in_ok-build.ensures.sources;
      mapped = mapped_made c.args.plan.now c.args.part known (map_at c.args.plan.now c.args.part c.exchange.result.now.write_map) c.map_at.result c.map_at.ensures
          (write_mesh c.args.plan.now c.args.part c.exchange.result.now) c.exchange.result.now.mesh c.write_mesh-mesh.result c.known_mesh-from.result.now c.known_mesh-to.result.now c.write_mesh-mesh.ensures
          c.known_mesh-from.ensures.points c.known_mesh-to.ensures.points c.in_ok-build.field-0 c.in_ok-build.ensures.mapped;
    }
