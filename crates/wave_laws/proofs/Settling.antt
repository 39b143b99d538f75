-- What is exchanged in a coupling of waves is settled.
use Rattle.coupled_loop.specs.Settled.{IsSettled}
use Rattle.cpl_plan.specs.ValidPlan.{IsValidPlan}
use Rattle.cpl_plan.specs.declared.parts.PlanParts.{PlanParts}
use Rattle.cpl_plan.proofs.FixedWindows.{window_number}
use Rattle.coupled_loop.specs.PlanFrames.{ends_made, window_maker}
use Rattle.wave_coupling.specs.Posts.{newest_time}
use Rattle.wave_coupling.specs.Coupling.{wave_frame}
use Rattle.wave_laws.proofs.InputsStay.{inputs_same}
use Rattle.wave_laws.proofs.JudgementsStay.{group_there, judgement_same, last_same}
use Rattle.std.proofs.Common.{◌-◌}

pub wave_settled : (plan : PlanParts) → IsValidPlan plan → IsSettled (wave_frame plan)
wave_settled plan valid = record {
  inputs = λ f g part w k below extends order order' provided. inputs_same plan valid f g extends order part w k below provided;
  judgements = λ f g number w k stands extends order order' first there given.
      let scheme = group_there plan valid number stands in
      judgement_same plan valid f g extends order number scheme.0 scheme.1 w k
      (window_number plan (ends_made newest_time f (window_maker plan) (w - 1)) w there).0 given first there;
  last = λ f number w stands. last_same plan valid f number w stands;
}
