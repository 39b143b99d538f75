-- One turn of a participant: a row of its entries that leads to what the loop makes of it.
use Rattle.std.proofs.Common.{◌≡◌, ℕ, zero, suc, ◌<◌, Option, Some, None, ap, subst, ◌∙◌, Result, Ok, Err}
use Rattle.coupled_loop.specs.Numbered.{put}
use Rattle.coupled_loop.specs.Frames.{Frame}
use Rattle.coupled_loop.specs.CoreState.{within, Side}
use Rattle.coupled_loop.specs.CoreStep.{after_post, ends_with}
use Rattle.coupled_loop.specs.Solving.{Solvers, Held, Solved, Stepped, goes_on, arrives, breaks, notes, ending_of, after_step, solve, solve_from}
use Rattle.coupled_loop.specs.Schedules.{Stage, resting, ready, broken, Actor, Actors, runs, begun, stepped, becomes, next}
use Rattle.core_laws.proofs.Puts.{put_same}
use Rattle.core_laws.proofs.NextSteps.{rests, next_steps, next_posts, next_breaks}
use Rattle.core_laws.proofs.Rows.{Row, row_stays, row_joined, row_one}

module _ {Mesh Post Inputs Fault State Run Note : Type 0} (frame : Frame Post Inputs Fault) (solvers : Solvers Mesh Post Inputs Fault State Run Note) where
  abbrev pub stage_of : Result Post (Option Fault) → Stage Run Post Fault
  stage_of (Ok post) = ready post
  stage_of (Err why) = broken why

  -- a participant whose solve is at its end
  abbrev pub at_end : Side Mesh Post Fault → Solved Mesh State Note Post Fault → Actor Mesh Post Fault State Run Note
  at_end side result = record { side = side; held = result.0; stage = stage_of result.1 }

  -- and after it has posted, or has stopped
  abbrev pub finished : (part w k : ℕ) → Side Mesh Post Fault → Solved Mesh State Note Post Fault → Actor Mesh Post Fault State Run Note
  finished part w k side (held, Ok post) = record { side = after_post (frame.group part) w k post side; held = held; stage = resting }
  finished part w k side (held, Err why) = record { side = ends_with (ending_of why) side; held = held; stage = resting }

  module _ (part w k : ℕ) (is_part : part < frame.parts) (side : Side Mesh Post Fault) (going : side.ending ≡ None) (at : side.place ≡ within w k) where
    step_row : (more : ℕ) (actors : Actors Mesh Post Fault State Run Note)
        → ((run : Run) (held : Held Mesh State Note) (now : Actors Mesh Post Fault State Run Note) → now part ≡ becomes frame solvers side (runs frame solvers part w k more run held)
        → Row frame solvers now part (at_end side (solve solvers part w k more run held)))
        → (step : Stepped State Run Post Fault) (held : Held Mesh State Note)
        → Row frame solvers (put actors part (becomes frame solvers side (stepped frame solvers part w k more step held))) part
        (at_end side (after_step solvers part (solve solvers part w k more) step held))
    step_row more actors further (goes_on run) held = further run held _ (put_same actors part _)
    step_row more actors further (arrives state post) held = row_stays frame solvers _ part _ (put_same actors part _)
    step_row more actors further (breaks state why) held = row_stays frame solvers _ part _ (put_same actors part _)

    pub solve_row : (more : ℕ) (run : Run) (held : Held Mesh State Note) (actors : Actors Mesh Post Fault State Run Note)
        → actors part ≡ becomes frame solvers side (runs frame solvers part w k more run held)
        → Row frame solvers actors part (at_end side (solve solvers part w k more run held))
    solve_row zero run held actors is = row_stays frame solvers actors part _ is
    solve_row (suc more) run held actors is =
        row_joined frame solvers actors part (becomes frame solvers side (stepped frame solvers part w k more (solvers.step part run).1 (notes (solvers.step part run).0 held))) _
        (row_one frame solvers actors part _ is_part
        (subst
        (λ (a : Actor Mesh Post Fault State Run Note). next frame solvers actors part
        ≡ Some (becomes frame solvers a.side (stepped frame solvers part w k more (solvers.step part run).1 (notes (solvers.step part run).0 a.held))))
        is
        (next_steps frame solvers actors part (ap (λ (a : Actor Mesh Post Fault State Run Note). a.side.ending) is ∙ going) w k
        (ap (λ (a : Actor Mesh Post Fault State Run Note). a.side.place) is ∙ at) run more (ap (λ (a : Actor Mesh Post Fault State Run Note). a.stage) is))))
        (step_row more actors (λ run' held' now is'. solve_row more run' held' now is') (solvers.step part run).1 (notes (solvers.step part run).0 held))

    pub begun_row : (begin : Result Run (Option Fault)) (held : Held Mesh State Note) (actors : Actors Mesh Post Fault State Run Note)
        → actors part ≡ becomes frame solvers side (begun frame solvers part w k begin held)
        → Row frame solvers actors part (at_end side (solve_from solvers part w k begin held))
    begun_row (Ok run) held actors is = solve_row solvers.most_steps run held actors is
    begun_row (Err why) held actors is = row_stays frame solvers actors part _ is

    pub finish_row : (result : Solved Mesh State Note Post Fault) (actors : Actors Mesh Post Fault State Run Note) → actors part ≡ at_end side result
        → Row frame solvers actors part (finished part w k side result)
    finish_row (held, Ok post) actors is =
        row_one frame solvers actors part _ is_part
        (subst (λ (a : Actor Mesh Post Fault State Run Note). next frame solvers actors part ≡ Some (rests (after_post (frame.group part) w k post a.side) a.held)) is
        (next_posts frame solvers actors part (ap (λ (a : Actor Mesh Post Fault State Run Note). a.side.ending) is ∙ going) w k
        (ap (λ (a : Actor Mesh Post Fault State Run Note). a.side.place) is ∙ at) post (ap (λ (a : Actor Mesh Post Fault State Run Note). a.stage) is)))
    finish_row (held, Err why) actors is =
        row_one frame solvers actors part _ is_part
        (subst (λ (a : Actor Mesh Post Fault State Run Note). next frame solvers actors part ≡ Some (rests (ends_with (ending_of why) a.side) a.held)) is
        (next_breaks frame solvers actors part (ap (λ (a : Actor Mesh Post Fault State Run Note). a.side.ending) is ∙ going) w k
        (ap (λ (a : Actor Mesh Post Fault State Run Note). a.side.place) is ∙ at) why (ap (λ (a : Actor Mesh Post Fault State Run Note). a.stage) is)))
