-- What a participant has made for its exchanges and watch-points, between the meshes that it knows. After the coupling documentation's mappings and watch-points.
use Rattle.std.specs.Prelude.{ℕ}
use Rattle.cpl_plan.specs.declared.parts.PlanParts.{PlanParts}
use Rattle.wave_coupling.specs.Known.{Known}
use Rattle.participant_waves.specs.SendsStand.{AreSends}
use Rattle.participant_waves.specs.TakesStand.{AreTakes}
use Rattle.participant_waves.specs.WatchesStand.{AreWatches}
use Rattle.participant_waves.specs.declared.passages.Passages.{Passages}

pub record ArePassages (plan : PlanParts) (part : ℕ) (known : Known) (passages : Passages) : Type 0 where
  pub sends : AreSends plan part known passages.sends
  pub takes : AreTakes plan part known passages.takes
  pub watches : AreWatches plan part known passages.watches
