-- What is kept of a participant's watch-points: for each the vertex that is nearest to its point. From the coupling documentation's watch-points.
use Rattle.std.specs.Prelude.{◌≡◌, ℕ, map}
use Rattle.cpl_plan.specs.declared.parts.PlanParts.{PlanParts}
use Rattle.mesh_data.specs.Nearest.{nearest_vertex}
use Rattle.wave_coupling.specs.Known.{Known, points_of}
use Rattle.participant_words.specs.WatchShown.{watches}
use Rattle.participant_waves.specs.declared.watches.Watches.{Watches}

pub record AreWatches (plan : PlanParts) (part : ℕ) (known : Known) (kept : Watches) : Type 0 where
  pub watcher : kept.part ≡ part
  pub nearest : kept.vertices ≡ map (λ watch. nearest_vertex (points_of plan part known watch.mesh) watch.at) (watches plan part)
