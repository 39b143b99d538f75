-- What is kept of the participants is what the state says of them. The project's own.
use Rattle.std.specs.Prelude.{◌≡◌, ℕ, length, take, slice_get, Some, None, option_map}
use Rattle.cpl_plan.specs.declared.parts.PlanParts.{PlanParts}
use Rattle.cpl_plan.specs.declared.parts.WindowMethod.TheVariants.{FirstParticipant}
use Rattle.coupled_loop.specs.CoreState.{Place, sending, collecting, opening, taking, within, judging, look_in, start_side}
use Rattle.coupled_loop.specs.PlanFrames.{window_maker, ends_made}
use Rattle.wave_coupling.specs.Posts.{newest_time}
use Rattle.core_sides.specs.CoreWords.{WaveState, WaveSide}
use Rattle.core_sides.specs.Answers.{ending_of}
use Rattle.core_sides.specs.declared.standing.Place.{Place as KeptPlace}
use Rattle.core_sides.specs.declared.standing.Place.TheVariants.{Sending, Collecting, Opening, Taking, Within, Judging}
use Rattle.core_sides.specs.declared.standing.Standing.{Standing}
use Rattle.core_sides.specs.declared.sides.Sides.{Sides}

abbrev pub place_of : KeptPlace → Place
place_of Sending = sending
place_of Collecting = collecting
place_of Opening = opening
place_of (Taking w k) = taking w k
place_of (Within w k) = within w k
place_of (Judging scheme w k) = judging scheme w k

-- of one participant
pub record IsStanding (standing : Standing) (side : WaveSide) : Type 0 where
  pub place : side.place ≡ place_of standing.place
  pub ending : standing.ending ≡ option_map ending_of side.ending
  pub sent : standing.sent ≡ side.sent

-- of all of them, and of the ends of the windows that the first has made
pub record AreStanding (plan : PlanParts) (kept : Sides) (sides : WaveState) : Type 0 where
  pub count : length kept.standings.items ≡ length plan.parts
  pub each : (p : ℕ) (standing : Standing) → slice_get kept.standings.items p ≡ Some standing → IsStanding standing (sides p)
  pub others : (p : ℕ) → slice_get kept.standings.items p ≡ None → sides p ≡ start_side
  pub ends : plan.method ≡ FirstParticipant → (n : ℕ) → ends_made newest_time (look_in sides) (window_maker plan) n ≡ take n kept.ends.items
