-- How many entries at most let a participant go on, by its place and by how far it is within a solve; each of them lowers it.
use Rattle.std.proofs.Common.{◌≡◌, ℕ, zero, suc, ◌+◌, ◌*◌, ◌<◌, ◌≤◌, Bool, true, false, if◌then◌else◌, List, Option, Some, None, Result, Ok, Err, refl, ap, arith}
use Rattle.coupled_loop.specs.Given.{Gift, Look}
use Rattle.coupled_loop.specs.Endings.{Judgement, again, converged, at_limit, refused}
use Rattle.coupled_loop.specs.Frames.{Frame}
use Rattle.coupled_loop.specs.CoreState.{Place, sending, collecting, opening, taking, within, judging, Side, CoreState, has_ended, turn_at}
use Rattle.coupled_loop.specs.CoreStep.{Reply, taken, judged, after_post, after_judgement, judged_as}
use Rattle.coupled_loop.specs.Solving.{Solvers, Held, Stepped, goes_on, arrives, breaks}
use Rattle.coupled_loop.specs.Schedules.{Stage, resting, running, Actor, becomes, runs, begun, stepped, hears}
use Rattle.core_laws.proofs.Well.{Stands, IsBefore, IsIteration}
use Rattle.core_laws.proofs.Rounds.{rounds, after, next_window, next_iteration, some_round, later_less, turn_less}

-- steps of a solve that are left
abbrev pub steps_left : {Run Post Fault : Type 0} → Stage Run Post Fault → ℕ
steps_left (running run more) = suc more
steps_left _ = 0

abbrev pub left_at : {Run Post Fault : Type 0} → (windows iterations steps : ℕ) → Place → Stage Run Post Fault → ℕ
left_at windows iterations steps sending stage = windows * iterations * (steps + 4) + 4
left_at windows iterations steps collecting stage = windows * iterations * (steps + 4) + 3
left_at windows iterations steps opening stage = windows * iterations * (steps + 4) + 2
left_at windows iterations steps (taking w k) stage = rounds windows iterations w k * (steps + 4) + 1
left_at windows iterations steps (within w k) stage = after (rounds windows iterations w k) steps + 2 + steps_left stage
left_at windows iterations steps (judging scheme w k) stage = after (rounds windows iterations w k) steps + 1

-- who has ended does nothing more
abbrev pub left : {Mesh Post Fault State Run Note : Type 0} → (windows iterations steps : ℕ) → Actor Mesh Post Fault State Run Note → ℕ
left windows iterations steps actor = if has_ended actor.side then 0 else left_at windows iterations steps actor.side.place actor.stage

-- an iteration that a place may have
abbrev pub Fits : (iterations : ℕ) → Place → Type 0
Fits iterations (taking w k) = (1 ≤ k) × (k ≤ iterations)
Fits iterations (within w k) = (1 ≤ k) × (k ≤ iterations)
Fits iterations (judging scheme w k) = (1 ≤ k) × (k ≤ iterations)
Fits iterations _ = Unit {0}

cond_le : (b : Bool) (n : ℕ) → (if b then 0 else n) ≤ n
cond_le true n = omega arith
cond_le false n = omega arith

pub some_left : {Run Post Fault : Type 0} (windows iterations steps : ℕ) (place : Place) (stage : Stage Run Post Fault) → 1 ≤ left_at windows iterations steps place stage
some_left windows iterations steps sending stage = omega arith
some_left windows iterations steps collecting stage = omega arith
some_left windows iterations steps opening stage = omega arith
some_left windows iterations steps (taking w k) stage = omega arith
some_left windows iterations steps (within w k) stage = omega arith
some_left windows iterations steps (judging scheme w k) stage = omega arith

module _ {Post Inputs Fault : Type 0} (frame : Frame Post Inputs Fault) (iterations : ℕ) (few : (scheme : ℕ) → frame.most_iterations scheme ≤ iterations) (some : 1 ≤ iterations) where
  iteration_fits : (group : Option ℕ) (k : ℕ) → IsIteration frame group k → (1 ≤ k) × (k ≤ iterations)
  iteration_fits None k is = (omega (arith, is), omega (arith, is, some))
  iteration_fits (Some scheme) k is = (is.0, omega (arith, is.1, few scheme))

  before_fits : (look : Look Post) (part w k : ℕ) → IsBefore frame look part w k → (1 ≤ k) × (k ≤ iterations)
  before_fits look part w k stands = iteration_fits (frame.group part) k stands.iteration

  pub place_fits : (look : Look Post) (part : ℕ) (place : Place) (given : List (Gift Post)) → Stands frame look part place given → Fits iterations place
  place_fits look part sending given stands = tt
  place_fits look part collecting given stands = tt
  place_fits look part opening given stands = tt
  place_fits look part (taking w k) given stands = before_fits look part w k stands.0
  place_fits look part (within w k) given stands = before_fits look part w k stands.0
  place_fits look part (judging scheme w k) given stands = before_fits look part w k stands.1

module _ {Mesh Post Inputs Fault State Run Note : Type 0} (frame : Frame Post Inputs Fault) (solvers : Solvers Mesh Post Inputs Fault State Run Note) (iterations : ℕ) where
  abbrev pub entries_left : Actor Mesh Post Fault State Run Note → ℕ
  entries_left = left frame.most_windows iterations solvers.most_steps

  abbrev pub entries_at : Place → Stage Run Post Fault → ℕ
  entries_at = left_at frame.most_windows iterations solvers.most_steps

  pub left_le : (side : Side Mesh Post Fault) (heard : Held Mesh State Note × Stage Run Post Fault) → entries_left (becomes frame solvers side heard) ≤ entries_at side.place heard.1
  left_le side heard = cond_le (has_ended side) (entries_at side.place heard.1)

  -- a solve has no more steps than it may have
  runs_left : (part w k more : ℕ) (run : Run) (held : Held Mesh State Note) → steps_left (runs frame solvers part w k more run held).1 ≤ more
  runs_left part w k zero run held = omega arith
  runs_left part w k (suc more) run held = omega arith

  begun_left : (part w k : ℕ) (begin : Result Run (Option Fault)) (held : Held Mesh State Note) → steps_left (begun frame solvers part w k begin held).1 ≤ solvers.most_steps
  begun_left part w k (Ok run) held = runs_left part w k solvers.most_steps run held
  begun_left part w k (Err why) held = omega arith

  pub stepped_left : (part w k more : ℕ) (made : Stepped State Run Post Fault) (held : Held Mesh State Note) → steps_left (stepped frame solvers part w k more made held).1 ≤ more
  stepped_left part w k more (goes_on run) held = runs_left part w k more run held
  stepped_left part w k more (arrives state post) held = omega arith
  stepped_left part w k more (breaks state why) held = omega arith

  -- one participant's event
  module _ (sides : CoreState Mesh Post Fault) (part : ℕ) (held : Held Mesh State Note) where
    -- fewer entries are left after an event that is made so
    abbrev pub Lessens : Place → Stage Run Post Fault → Reply Mesh Inputs Fault × Side Mesh Post Fault → Type 0
    Lessens place stage made =
        entries_left (becomes frame solvers made.1 (hears frame solvers part (turn_at place).0 (turn_at place).1 made.0 held)) < entries_at place stage

    pub posts_less : (group : Option ℕ) (w k : ℕ) (post : Post) (stage : Stage Run Post Fault) → 1 ≤ k → k ≤ iterations
        → entries_left (becomes frame solvers (after_post group w k post (sides part)) (held, resting)) < entries_at (within w k) stage
    posts_less None w k post stage some few =
        let bound = left_le (after_post None w k post (sides part)) (held, resting) in
        let later = later_less (rounds frame.most_windows iterations w k) (rounds frame.most_windows iterations (w + 1) 1) solvers.most_steps (next_window frame.most_windows iterations w k some few) in
        omega (arith, bound, later)
    posts_less (Some scheme) w k post stage some few =
        let bound = left_le (after_post (Some scheme) w k post (sides part)) (held, resting) in
        omega (arith, bound)

    completes_less : (w k : ℕ) (side : Side Mesh Post Fault) (heard : Held Mesh State Note × Stage Run Post Fault) → side.place ≡ taking (w + 1) 1 → 1 ≤ k → k ≤ iterations
        → entries_left (becomes frame solvers side heard) ≤ after (rounds frame.most_windows iterations w k) solvers.most_steps
    completes_less w k side heard is some few =
        let bound = left_le side heard in
        let later = later_less (rounds frame.most_windows iterations w k) (rounds frame.most_windows iterations (w + 1) 1) solvers.most_steps (next_window frame.most_windows iterations w k some few) in
        let at : entries_at side.place heard.1 ≡ entries_at (taking (w + 1) 1) heard.1 = ap (λ place. entries_at place heard.1) is in
        omega (arith, bound, later, at)

    pub judges_less : (judgement : Judgement Fault) (scheme w k : ℕ) (stage : Stage Run Post Fault) → 1 ≤ k → k ≤ iterations
        → Lessens (judging scheme w k) stage (judged_as frame sides part judgement w k)
    judges_less again scheme w k stage some few =
        let bound = left_le (after_judgement again w k (sides part)) (hears frame solvers part w k (judged again) held) in
        let later = later_less (rounds frame.most_windows iterations w k) (rounds frame.most_windows iterations w (k + 1)) solvers.most_steps (next_iteration frame.most_windows iterations w k some) in
        omega (arith, bound, later)
    judges_less converged scheme w k stage some few =
        let bound = completes_less w k (after_judgement converged w k (sides part)) (hears frame solvers part w k (judged converged) held) refl some few in
        omega (arith, bound)
    judges_less at_limit scheme w k stage some few =
        let bound = completes_less w k (after_judgement at_limit w k (sides part)) (hears frame solvers part w k (judged at_limit) held) refl some few in
        omega (arith, bound)
    judges_less (refused fault) scheme w k stage some few = omega arith

    pub takes_less : (w k : ℕ) (inputs : Inputs) (stage : Stage Run Post Fault) → 1 ≤ k → k ≤ iterations → w ≤ frame.most_windows
        → Lessens (taking w k) stage (taken inputs, record (sides part) { place = within w k })
    takes_less w k inputs stage some few inside =
        let heard = hears frame solvers part w k (taken inputs) held in
        let bound = left_le (record (sides part) { place = within w k }) heard in
        let solve : steps_left heard.1 ≤ solvers.most_steps = begun_left part w k _ _ in
        let turn = turn_less (rounds frame.most_windows iterations w k) solvers.most_steps (some_round frame.most_windows iterations w k inside few some) in
        omega (arith, bound, solve, turn)
