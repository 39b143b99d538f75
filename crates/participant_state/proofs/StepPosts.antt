-- What is sampled at the end of a window can be posted.
use Rattle.std.proofs.Common.{◌≡◌, ℕ, ◌+◌, List, [], ◌∷◌, ◌++◌, map, Option, Some, IfSome, All, sym, subst, arith}
use Rattle.std.proofs.lemmas.List.{length-append}
use Rattle.mesh_data.specs.declared.any_mesh.AnyMesh.{AnyMesh}
use Rattle.cpl_plan.specs.ValidPlan.{IsValidPlan}
use Rattle.cpl_plan.specs.declared.parts.PlanParts.{PlanParts}
use Rattle.cpl_plan.specs.declared.words.WatchRow.{WatchRow}
use Rattle.participant_words.specs.KnownByReply.{known_by}
use Rattle.participant_words.specs.declared.phase.Phase.{Phase}
use Rattle.participant_tables.specs.Named.{Called}
use Rattle.participant_tables.specs.Queued.{Queued}
use Rattle.participant_tables.specs.WriteKept.{AreSamples, WriteKept}
use Rattle.participant_tables.specs.WriteSteps.{sampled}
use Rattle.participant_tables.specs.declared.clock.Clock.{Clock}
use Rattle.participant_tables.specs.declared.read_table.ReadEntry.{ReadEntry}
use Rattle.participant_waves.specs.PassagesStand.{ArePassages}
use Rattle.participant_waves.specs.SendsStand.{AreSends, CanSend}
use Rattle.participant_waves.specs.Written.{AreWritten}
use Rattle.participant_waves.specs.declared.kept_input.KeptInput.{KeptInput}
use Rattle.participant_waves.specs.declared.passages.Passages.{Passages}
use Rattle.participant_state.specs.Kept.{written_in}
use Rattle.participant_state.proofs.StepKept.{filled_sampled, of_plan_sampled}
use Rattle.participant_state.proofs.StepStands.{AllStand, CanStep}
use Rattle.participant_state.proofs.StepWritten.{written_can_be_sent, written_stands}

module _ (plan : PlanParts) (part : ℕ) (names : Called) (own received : List AnyMesh) (passages : Option Passages) (reads : List ReadEntry) (inputs : List KeptInput) (rows : List WatchRow)
    (writes : List WriteKept) (times : List ℕ) (clock : Clock) (queue : Queued) (phase : Phase) (dt : ℕ) (stand : AllStand plan part names own received passages reads inputs rows writes times clock queue phase)
    (can : CanStep plan part names own received passages reads inputs rows times clock queue phase dt) (valid : IsValidPlan plan)
    (p : Passages) (joined : passages ≡ Some p)
    (new : List WriteKept) (new_is : new ≡ map (sampled (clock.now + dt)) writes) (shapes : All AreSamples new) where
  shapes_sampled : All AreSamples (map (sampled (clock.now + dt)) writes)
  shapes_sampled = subst (λ (w : List WriteKept). All AreSamples w) new_is shapes

  pub posts_are : AreSends plan part (known_by plan part own received) p.sends
  posts_are =
      let are = subst (λ (o : Option Passages). IfSome o (ArePassages plan part (known_by plan part own received))) joined stand.4.stand in
      are.sends

  pub posts_written : AreWritten plan part (known_by plan part own received)
      (written_in clock.window clock.iteration (times ++ (clock.now + dt) ∷ []) (map (sampled (clock.now + dt)) writes)) new
  posts_written =
      subst (λ (w : List WriteKept). AreWritten plan part (known_by plan part own received) (written_in clock.window clock.iteration (times ++ (clock.now + dt) ∷ []) (map (sampled (clock.now + dt)) writes)) w) (sym new_is)
      (written_stands plan part valid names own received (map (sampled (clock.now + dt)) writes) reads (times ++ (clock.now + dt) ∷ [])
      (of_plan_sampled plan part names own writes reads (clock.now + dt) stand.0) (filled_sampled own writes times stand.1 (clock.now + dt) can.room) shapes_sampled clock.window clock.iteration)

  pub posts_can_be_sent : All (CanSend new) p.sends.sendings
  posts_can_be_sent =
      subst (λ (w : List WriteKept). All (CanSend w) p.sends.sendings) (sym new_is)
      (written_can_be_sent plan part valid names own received (map (sampled (clock.now + dt)) writes) reads (times ++ (clock.now + dt) ∷ [])
      (of_plan_sampled plan part names own writes reads (clock.now + dt) stand.0) (filled_sampled own writes times stand.1 (clock.now + dt) can.room) shapes_sampled clock.window clock.iteration
      p.sends posts_are (omega (arith, length-append times ((clock.now + dt) ∷ []))))
