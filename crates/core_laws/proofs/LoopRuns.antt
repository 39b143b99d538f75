-- The loop is a schedule: participants that go on in its order end as it says.
use Rattle.std.proofs.Common.{◌≡◌, ℕ, ◌<◌, List, ◌++◌, Some, subst, arith}
use Rattle.coupled_loop.specs.Frames.{Frame}
use Rattle.coupled_loop.specs.Solving.{Solvers}
use Rattle.coupled_loop.specs.CoupledLoop.{Parts, coupled, ending_in, go_through}
use Rattle.coupled_loop.specs.Schedules.{Actors, opening_actors, next}
use Rattle.coupled_loop.specs.Settled.{IsSettled}
use Rattle.core_laws.proofs.Sound.{IsSound}
use Rattle.core_laws.proofs.Nets.{Goes, goes_joined}
use Rattle.core_laws.proofs.LoopEnds.{LoopEnds, windows_go}
use Rattle.core_laws.proofs.Openings.{HasOpened, all_opened}

module _ {Mesh Post Inputs Fault State Run Note : Type 0} (frame : Frame Post Inputs Fault) (solvers : Solvers Mesh Post Inputs Fault State Run Note)
    (sound : IsSound frame) (settled : IsSettled frame) where
  pub loop_runs : (schedule : List ℕ) × (actors : Actors Mesh Post Fault State Run Note)
      × Goes frame.parts (next frame solvers) (opening_actors frame solvers) schedule actors
      × ((part : ℕ) → part < frame.parts
      → ((actors part).held ≡ (coupled frame solvers part).held) × ((actors part).side.given ≡ (coupled frame solvers part).given)
      × ((actors part).side.ending ≡ Some (ending_in (coupled frame solvers part))))
  loop_runs =
      let first : HasOpened frame solvers sound settled = all_opened frame solvers sound settled in
      let rest : LoopEnds frame solvers first.to (coupled frame solvers) =
      subst (λ (parts : Parts Mesh Post Fault State Note). LoopEnds frame solvers first.to (go_through frame solvers 1 frame.most_windows parts)) first.seen
      (windows_go frame solvers sound settled frame.most_windows 1 first.to (omega arith) (omega arith) first.stand) in (
        first.list ++ rest.list,
        rest.to,
        goes_joined frame.parts (next frame solvers) first.list (opening_actors frame solvers) first.to rest.to rest.list first.goes rest.goes,
        rest.as_loop,
      )
