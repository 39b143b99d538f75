-- Every list of goes leads on to the loop's end; so what is noted is the beginning of what is noted there, and where nobody can go on that end is reached.
use Rattle.std.proofs.Common.{◌≡◌, ℕ, ◌<◌, inl, Bool, true, if◌then◌else◌, List, Option, Some, None, is_some, refl, ap, ◌∙◌}
use Rattle.coupled_loop.specs.Endings.{Ending}
use Rattle.coupled_loop.specs.Frames.{Frame}
use Rattle.coupled_loop.specs.CoreState.{has_ended}
use Rattle.coupled_loop.specs.Settled.{IsSettled}
use Rattle.coupled_loop.specs.Solving.{Solvers, Held}
use Rattle.coupled_loop.specs.CoupledLoop.{coupled, ending_in}
use Rattle.coupled_loop.specs.Schedules.{Actors, Entry, opening_actors, nothing, wish_at, does, next, IsSchedule}
use Rattle.core_laws.specs.Laws.{IsPrefix, HasNoQuits}
use Rattle.core_laws.proofs.Sound.{IsSound}
use Rattle.core_laws.proofs.Nets.{Goes, IsAtEnd}
use Rattle.core_laws.proofs.SystemNets.{system_net, system_ends_same, no_quits_gone}
use Rattle.core_laws.proofs.LoopRuns.{loop_runs}
use Rattle.core_laws.proofs.Shadows.{shadow_notes, followed}
use Rattle.core_laws.proofs.NotesGrow.{begins_moved, goes_grow}

module _ {Mesh Post Inputs Fault State Run Note : Type 0} (frame : Frame Post Inputs Fault) (solvers : Solvers Mesh Post Inputs Fault State Run Note) where
  -- who has ended does not go on
  pub ended_none : (actors : Actors Mesh Post Fault State Run Note) (part : ℕ) → has_ended (actors part).side ≡ true → next frame solvers actors part ≡ None
  ended_none actors part ended = ap (λ (b : Bool). does frame solvers actors part (if b then nothing else wish_at frame solvers actors part (actors part).side.place)) ended

  module _ (sound : IsSound frame) (settled : IsSettled frame) where
    -- the loop's end, as the system comes to it
    pub loop_end : Actors Mesh Post Fault State Run Note
    loop_end = (loop_runs frame solvers sound settled).1

    pub all_ended : (part : ℕ) → part < frame.parts → has_ended (loop_end part).side ≡ true
    unfolding loop_end
    all_ended part inside = ap (λ (o : Option (Ending Fault)). is_some o) ((loop_runs frame solvers sound settled).3 part inside).2

    loop_done : IsAtEnd frame.parts (next frame solvers) loop_end
    loop_done part inside = ended_none loop_end part (all_ended part inside)

    pub leads_on : (done : List ℕ) (now : Actors Mesh Post Fault State Run Note) → Goes frame.parts (next frame solvers) (opening_actors frame solvers) done now
        → (rest : List ℕ) × Goes frame.parts (next frame solvers) now rest loop_end
    unfolding loop_end
    leads_on done now goes =
        let runs = loop_runs frame solvers sound settled in
        let rest = system_net frame solvers sound settled done runs.0 loop_end now runs.2 loop_done goes in
        (rest.0, rest.1)

    -- what is noted is the beginning of what the loop notes
    pub prefix : (schedule : List Entry) (actors : Actors Mesh Post Fault State Run Note) (part : ℕ) → IsSchedule frame solvers schedule actors → part < frame.parts
        → IsPrefix (actors part).held.notes (coupled frame solvers part).held.notes
    unfolding loop_end
    prefix schedule actors part is inside =
        let shadow = followed frame solvers schedule (opening_actors frame solvers) actors (opening_actors frame solvers) (λ one. inl refl) is in
        let rest = leads_on shadow.list shadow.end shadow.goes in
        let grown = goes_grow frame solvers rest.0 shadow.end loop_end rest.1 part in
        let held : (loop_end part).held.notes ≡ (coupled frame solvers part).held.notes = ap (λ (h : Held Mesh State Note). h.notes) ((loop_runs frame solvers sound settled).3 part inside).0 in
        begins_moved (actors part).held.notes (shadow.end part).held.notes (loop_end part).held.notes (coupled frame solvers part).held.notes
        (shadow_notes (actors part) (shadow.end part) (shadow.are part)) grown held

    pub same_end : (schedule : List Entry) (actors : Actors Mesh Post Fault State Run Note) (part : ℕ) → IsSchedule frame solvers schedule actors → HasNoQuits schedule
        → ((other : ℕ) → other < frame.parts → next frame solvers actors other ≡ None) → part < frame.parts
        → ((actors part).held ≡ (coupled frame solvers part).held) × ((actors part).side.given ≡ (coupled frame solvers part).given)
        × ((actors part).side.ending ≡ Some (ending_in (coupled frame solvers part)))
    unfolding loop_end
    same_end schedule actors part is none stuck inside =
        let runs = loop_runs frame solvers sound settled in
        let gone = no_quits_gone frame solvers sound settled schedule (opening_actors frame solvers) actors none is in
        let same : actors ≡ loop_end = system_ends_same frame solvers sound settled gone.0 runs.0 loop_end actors runs.2 loop_done gone.2 stuck in
        let end = runs.3 part inside in (
          ap (λ (s : Actors Mesh Post Fault State Run Note). (s part).held) same ∙ end.0,
          ap (λ (s : Actors Mesh Post Fault State Run Note). (s part).side.given) same ∙ end.1,
          ap (λ (s : Actors Mesh Post Fault State Run Note). (s part).side.ending) same ∙ end.2,
        )
