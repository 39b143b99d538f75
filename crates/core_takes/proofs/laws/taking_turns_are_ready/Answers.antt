use Rattle.core_takes.proofs.Taking.{taking_is_ready, taking_tells}
use Rattle.core_takes.proofs.laws.taking_turns_are_ready.Goals as goal

pub returns : goal.returns
returns c = record {
  ready = λ plan history sides stores schemes part w k valid reached stored judged below at there none.
      taking_is_ready plan valid history sides reached stores stored schemes judged part w k below at there none;
  tells = λ plan history sides stores schemes part w k valid reached stored judged below at there none.
      taking_tells plan valid history sides reached stores stored schemes judged part w k below at there none;
}
