-- What is kept of the participants is what the state says of them: of each its place, its ending and its meshes, and the ends of the windows that the first has made. The project's own.
use Rattle.std.specs.Prelude.{◌≡◌, ℕ, List, length, take, slice_get, Some, None}
use Rattle.cpl_plan.specs.declared.parts.PlanParts.{PlanParts}
use Rattle.cpl_plan.specs.declared.parts.WindowMethod.TheVariants.{FirstParticipant}
use Rattle.coupled_loop.specs.CoreState.{look_in, start_side}
use Rattle.coupled_loop.specs.PlanFrames.{window_maker, ends_made}
use Rattle.wave_coupling.specs.Posts.{newest_time}
use Rattle.core_sides.specs.CoreWords.{WaveState}
use Rattle.core_sides.specs.SidesStand.{IsStanding}
use Rattle.core_sides.specs.declared.standing.Standing.{Standing}

pub record ArePlaced (plan : PlanParts) (standings : List Standing) (windows : List ℕ) (sides : WaveState) : Type 0 where
  pub count : length standings ≡ length plan.parts
  pub each : (p : ℕ) (standing : Standing) → slice_get standings p ≡ Some standing → IsStanding standing (sides p)
  pub others : (p : ℕ) → slice_get standings p ≡ None → sides p ≡ start_side
  pub ends : plan.method ≡ FirstParticipant → (n : ℕ) → ends_made newest_time (look_in sides) (window_maker plan) n ≡ take n windows
