-- All orders in which participants may act: each entry lets one of them make its next event at the core or one step of its solve, or lets it end before its time. The project's own.
use Rattle.std.specs.Prelude.{◌≡◌, ℕ, zero, suc, ◌<◌, if◌then◌else◌, List, [], ◌∷◌, Option, Some, None, option_map, Result, Ok, Err}
use Rattle.coupled_loop.specs.Numbered.{put}
use Rattle.std.specs.Option.{option_or}
use Rattle.coupled_loop.specs.Frames.{Frame}
use Rattle.coupled_loop.specs.CoreState.{Place, sending, collecting, opening, taking, within, judging, Side, CoreState, start_side, has_ended, look_in, turn_at}
use Rattle.coupled_loop.specs.CoreStep.{Act, sends_meshes, takes_meshes, posts, takes, judges, stops, lacks_memory, ends, is_cut, Reply, posted, meshes, taken, judged, cut_off, over, core_step}
use Rattle.coupled_loop.specs.Solving.{Solvers, Held, Stepped, goes_on, arrives, breaks, notes, hears_judgement, hears_inputs, begins}

-- how far a participant is within a solve
pub data Stage (Run Post Fault : Type 0) : Type 0 where
  -- it is in none
  resting : Stage Run Post Fault
  -- it makes a step, and so many more may follow
  running : Run → (more : ℕ) → Stage Run Post Fault
  -- it has what it posts
  ready : Post → Stage Run Post Fault
  -- it has broken off
  broken : Option Fault → Stage Run Post Fault

-- one participant: where it stands at the core, what it holds, and how far it is within a solve
pub record Actor (Mesh Post Fault State Run Note : Type 0) : Type 0 where
  pub side : Side Mesh Post Fault
  pub held : Held Mesh State Note
  pub stage : Stage Run Post Fault

-- all of them, by their numbers
abbrev pub Actors : Type 0 → Type 0 → Type 0 → Type 0 → Type 0 → Type 0 → Type 0
Actors Mesh Post Fault State Run Note = ℕ → Actor Mesh Post Fault State Run Note

-- what a participant does next: it asks the core, it makes a step of its solve, or it has ended
pub data Wish (Mesh Post Fault Run : Type 0) : Type 0 where
  asks : Act Mesh Post Fault → Wish Mesh Post Fault Run
  steps : Run → (more : ℕ) → Wish Mesh Post Fault Run
  nothing : Wish Mesh Post Fault Run

-- one entry of a schedule
pub data Entry : Type 0 where
  -- a participant goes on
  go : ℕ → Entry
  -- it ends early, or stops for want of memory
  quit : ℕ → Entry
  run_out : ℕ → Entry

abbrev pub participant_of : Entry → ℕ
participant_of (go part) = part
participant_of (quit part) = part
participant_of (run_out part) = part

-- who breaks off stops for the fault, or ends
abbrev pub act_of : {Mesh Post Fault : Type 0} → Option Fault → Act Mesh Post Fault
act_of None = ends
act_of (Some fault) = stops fault

abbrev pub first_act : {Mesh Post Fault : Type 0} → Result Post (Option Fault) → Act Mesh Post Fault
first_act (Ok post) = posts post
first_act (Err why) = act_of why

abbrev pub wish_within : {Mesh Post Fault Run : Type 0} → Stage Run Post Fault → Wish Mesh Post Fault Run
wish_within resting = nothing
wish_within (running run more) = steps run more
wish_within (ready post) = asks (posts post)
wish_within (broken why) = asks (act_of why)

module _ {Mesh Post Inputs Fault State Run Note : Type 0} (frame : Frame Post Inputs Fault) (solvers : Solvers Mesh Post Inputs Fault State Run Note) where
  abbrev pub sides_of : Actors Mesh Post Fault State Run Note → CoreState Mesh Post Fault
  sides_of actors part = (actors part).side

  -- where everything begins
  abbrev pub opening_actors : Actors Mesh Post Fault State Run Note
  opening_actors part = record {
    side = start_side;
    held = record { received = []; state = solvers.start part; kept = solvers.start part; notes = [] };
    stage = resting;
  }

  abbrev pub wish_at : Actors Mesh Post Fault State Run Note → (part : ℕ) → Place → Wish Mesh Post Fault Run
  wish_at actors part sending = asks (sends_meshes (solvers.meshes part))
  wish_at actors part collecting = asks takes_meshes
  wish_at actors part opening = asks (first_act (solvers.first part (actors part).held.received (actors part).held.state))
  wish_at actors part (taking w k) = asks (if frame.is_there (look_in (sides_of actors)) w then takes else ends)
  wish_at actors part (within w k) = wish_within (actors part).stage
  wish_at actors part (judging scheme w k) = asks judges

  abbrev pub wish : Actors Mesh Post Fault State Run Note → (part : ℕ) → Wish Mesh Post Fault Run
  wish actors part = if has_ended (actors part).side then nothing else wish_at actors part (actors part).side.place

  -- a run on which so many steps may follow; with none it has taken too many
  abbrev pub runs : (part w k more : ℕ) → Run → Held Mesh State Note → Held Mesh State Note × Stage Run Post Fault
  runs part w k zero run held = (record held { state = solvers.state_of run }, broken (solvers.too_many part w k))
  runs part w k (suc more) run held = (held, running run more)

  abbrev pub begun : (part w k : ℕ) → Result Run (Option Fault) → Held Mesh State Note → Held Mesh State Note × Stage Run Post Fault
  begun part w k (Ok run) held = runs part w k solvers.most_steps run held
  begun part w k (Err why) held = (held, broken why)

  abbrev pub stepped : (part w k more : ℕ) → Stepped State Run Post Fault → Held Mesh State Note → Held Mesh State Note × Stage Run Post Fault
  stepped part w k more (goes_on run) held = runs part w k more run held
  stepped part w k more (arrives state post) held = (record held { state = state }, ready post)
  stepped part w k more (breaks state why) held = (record held { state = state }, broken why)

  -- what a participant makes of a reply that it gets in window w and iteration k
  abbrev pub hears : (part w k : ℕ) → Reply Mesh Inputs Fault → Held Mesh State Note → Held Mesh State Note × Stage Run Post Fault
  hears part w k (meshes received) held = (record held { received = received }, resting)
  hears part w k (taken inputs) held =
      let heard = hears_inputs solvers part w k inputs held in begun part w k (begins solvers part w k inputs heard) heard
  hears part w k (judged judgement) held = (hears_judgement solvers part w k judgement held, resting)
  hears part w k posted held = (held, resting)
  hears part w k cut_off held = (held, resting)
  hears part w k over held = (held, resting)

  -- a participant with what it has become, and where it stands
  abbrev pub becomes : Side Mesh Post Fault → Held Mesh State Note × Stage Run Post Fault → Actor Mesh Post Fault State Run Note
  becomes side (held, stage) = record { side = side; held = held; stage = stage }

  abbrev pub answered : Actors Mesh Post Fault State Run Note → (part : ℕ) → Reply Mesh Inputs Fault × Side Mesh Post Fault → Actor Mesh Post Fault State Run Note
  answered actors part (reply, side) =
      becomes side (hears part (turn_at (actors part).side.place).0 (turn_at (actors part).side.place).1 reply (actors part).held)

  -- what is wished is done; none where it has to wait. Who is cut off is cut in place of its event
  abbrev pub does : Actors Mesh Post Fault State Run Note → (part : ℕ) → Wish Mesh Post Fault Run → Option (Actor Mesh Post Fault State Run Note)
  does actors part (asks act) =
      option_map (answered actors part) (option_or (core_step frame (sides_of actors) part act) (core_step frame (sides_of actors) part is_cut))
  does actors part (steps run more) =
      Some (becomes (actors part).side
      (stepped part (turn_at (actors part).side.place).0 (turn_at (actors part).side.place).1 more
      (solvers.step part run).1 (notes (solvers.step part run).0 (actors part).held)))
  does actors part nothing = None

  -- a participant goes on
  abbrev pub next : Actors Mesh Post Fault State Run Note → (part : ℕ) → Option (Actor Mesh Post Fault State Run Note)
  next actors part = does actors part (wish actors part)

  -- what becomes of an entry's participant; none where the entry is not enabled
  abbrev pub enabled : Actors Mesh Post Fault State Run Note → Entry → Option (Actor Mesh Post Fault State Run Note)
  enabled actors (go part) = next actors part
  enabled actors (quit part) = option_map (answered actors part) (core_step frame (sides_of actors) part ends)
  enabled actors (run_out part) = option_map (answered actors part) (core_step frame (sides_of actors) part lacks_memory)

  -- the entries are enabled one after another, and lead from these actors to those
  abbrev pub Leads : Actors Mesh Post Fault State Run Note → List Entry → Actors Mesh Post Fault State Run Note → Type 0
  Leads from [] to = from ≡ to
  Leads from (entry ∷ rest) to =
      (actor : Actor Mesh Post Fault State Run Note)
      × (participant_of entry < frame.parts)
      × (enabled from entry ≡ Some actor)
      × Leads (put from (participant_of entry) actor) rest to

  -- a schedule
  abbrev pub IsSchedule : List Entry → Actors Mesh Post Fault State Run Note → Type 0
  IsSchedule schedule to = Leads opening_actors schedule to
