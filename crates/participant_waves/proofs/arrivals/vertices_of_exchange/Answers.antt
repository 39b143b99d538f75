use Rattle.participant_waves.proofs.PlanSays.{reader_told}
use Rattle.participant_waves.proofs.arrivals.vertices_of_exchange.Goals as goal

pub known_mesh-requires-clause-mesh : goal.known_mesh-requires-clause-mesh
known_mesh-requires-clause-mesh c =
    (reader_told c.args.plan.now c.args.x c.args.part c.exchange-exchange.result.now c.parts-parts.ensures.valid c.exchange-exchange.ensures c.requires.reader).mesh
